-- In a view that calls reach no ticket is reported with two entries: that of a message is reported with its first fragment, which has one index.
use Rattle.std.proofs.Common.{◌≡◌, ℕ, zero, suc, ◌+◌, ◌≤◌, Bool, true, false, List, [], ◌∷◌, Option, Some, None, inl, inr, refl, sym, subst, ap, ◌∙◌, arith}
use Rattle.std.specs.Prelude.{◌==◌, slice_get, option_and_then}
use Rattle.std.specs.List.{cons_option}
use Rattle.std.proofs.lemmas.Bool.Decides.{nat_tests}
use Rattle.sctp_model.specs.numbers.Lists.{Has}
use Rattle.sctp_model.specs.messages.Format.{Format, Lane}
use Rattle.sctp_model.specs.messages.Plan.{Message, Entry, Part, End, Plan, message_at}
use Rattle.sctp_model.specs.sender.SenderView.{SenderView}
use Rattle.sctp_model.specs.sender.Words.{when}
use Rattle.sctp_model.specs.sender.Entries.{entry_lane, entry_number}
use Rattle.sctp_model.specs.sender.Abandoning.{Name, has_ticket}
use Rattle.sctp_model.specs.sender.Filling.{begun_ticket, begun_tickets}
use Rattle.sctp_model.specs.sender.Reached.{IsReached}
use Rattle.sctp_model.proofs.sender.OwnLaws.{Owns, AllOwn}
use Rattle.sctp_model.proofs.sender.TicketLaws.{is_ticketed}
use Rattle.sctp_safety.proofs.sending.OrderlyCalls.{plan_stays_orderly}
use Rattle.sctp_outcomes.specs.ToldOnce.{NoTicketTwice}

-- ---- the entry with which a ticket is reported

-- it is the first fragment of the message with the ticket
record IsToldBy (p : Plan) (e : Entry) (t : ℕ) : Type 0 where
  lane : Lane
  number : ℕ
  is : e ≡ Part lane number 0
  ticket : has_ticket t (message_at p lane number) ≡ true

-- with what isn't first nothing is reported
tells_nothing : (t : ℕ) (first : Bool) → first ≡ false → (o : Option Message) → option_and_then (λ m. when first m.ticket) o ≡ Some t → ⊥
tells_nothing t true off o tells = cc
tells_nothing t false off None tells = cc
tells_nothing t false off (Some m) tells = cc

told_by : (p : Plan) (e : Entry) (t : ℕ) → begun_ticket p e ≡ Some t → IsToldBy p e t
told_by p (Part l n zero) t b = record { lane = l; number = n; is = refl; ticket = here (message_at p l n) b }
  where
    here : (o : Option Message) → option_and_then (λ m. when true m.ticket) o ≡ Some t → has_ticket t o ≡ true
    here None none = absurd (cc)
    here (Some m) some = let same : m.ticket ≡ t = cc in grind (arith, nat_tests)
told_by p (Part l n (suc k)) t b = let off : (suc k == 0) ≡ false = grind (arith, nat_tests) in absurd (tells_nothing t (suc k == 0) off (message_at p l n) b)
told_by p (End l n) t b = absurd (tells_nothing t false refl (message_at p l n) b)

owns_at : (p : Plan) (k : ℕ) (all es : List Entry) (i : ℕ) (e : Entry) → AllOwn p k all es → slice_get es i ≡ Some e → Owns p k all (entry_lane e) (entry_number e)
owns_at p k all [] i e h is = absurd (cc)
owns_at p k all (d ∷ es) zero e h is = let same : d ≡ e = cc in subst (λ (x : Entry). Owns p k all (entry_lane x) (entry_number x)) same h.0
owns_at p k all (d ∷ es) (suc i) e h is = owns_at p k all es i e h.1 is

-- ---- its place

-- these are the entries from a place on
abbrev StandsFrom : List Entry → ℕ → List Entry → Type 0
StandsFrom all i es = (j : ℕ) → slice_get es j ≡ slice_get all (i + j)

from_next : (all : List Entry) (i : ℕ) (e : Entry) (es : List Entry) → StandsFrom all i (e ∷ es) → StandsFrom all (suc i) es
from_next all i e es from = λ j. from (suc j) ∙ ap (slice_get all) (omega arith)

place_is : (all : List Entry) (i : ℕ) (e : Entry) (es : List Entry) → StandsFrom all i (e ∷ es) → slice_get all i ≡ Some e
place_is all i e es from = ap (slice_get all) (omega arith) ∙ sym (from 0)

-- with some entry from there on the ticket is reported
record IsToldFrom (p : Plan) (i t : ℕ) : Type 0 where
  place : ℕ
  behind : i ≤ place
  entry : Entry
  there : slice_get p.entries place ≡ Some entry
  tells : begun_ticket p entry ≡ Some t

told_from : (p : Plan) (i : ℕ) (es : List Entry) (t : ℕ) → StandsFrom p.entries i es → Has (begun_tickets p es) t → IsToldFrom p i t
told_from p i [] t from has = absurd has
told_from p i (e ∷ es) t from has = by_ticket (λ more. told_from p (suc i) es t (from_next p.entries i e es from) more) (begun_ticket p e) refl has
  where
    earlier : IsToldFrom p (suc i) t → IsToldFrom p i t
    earlier x = let b = x.behind in record { place = x.place; behind = omega (arith, b); entry = x.entry; there = x.there; tells = x.tells }

    by_ticket : (Has (begun_tickets p es) t → IsToldFrom p (suc i) t) → (o : Option ℕ) → begun_ticket p e ≡ o → Has (cons_option o (begun_tickets p es)) t → IsToldFrom p i t
    by_ticket further None is more = earlier (further more)
    by_ticket further (Some u) is (inl same) =
        record { place = i; behind = omega arith; entry = e; there = place_is p.entries i e es from; tells = is ∙ ap (λ (k : ℕ). Some k) same }
    by_ticket further (Some u) is (inr more) = earlier (further more)

-- ---- it isn't reported twice

one_name : (m n : Name) → Some m ≡ Some n → m ≡ n
one_name m n same = cc

module _ (f : Format) (v : SenderView) (reached : IsReached f v) where
  one_place : (i j t : ℕ) (d e : Entry) → slice_get v.plan.entries i ≡ Some d → slice_get v.plan.entries j ≡ Some e → begun_ticket v.plan d ≡ Some t → begun_ticket v.plan e ≡ Some t
      → i ≡ j
  one_place i j t d e at_i at_j tells_d tells_e =
      let es = v.plan.entries in
      let owned = (is_ticketed f v reached).owned in
      let x = told_by v.plan d t tells_d in
      let y = told_by v.plan e t tells_e in
      let here : slice_get es i ≡ Some (Part x.lane x.number 0) = at_i ∙ ap (λ (z : Entry). Some z) x.is in
      let there : slice_get es j ≡ Some (Part y.lane y.number 0) = at_j ∙ ap (λ (z : Entry). Some z) y.is in
      let one = ((owns_at v.plan v.tickets es es i (Part x.lane x.number 0) owned here) t x.ticket).2 in
      let two = ((owns_at v.plan v.tickets es es j (Part y.lane y.number 0) owned there) t y.ticket).2 in
      let same = one_name (record { lane = y.lane; number = y.number }) (record { lane = x.lane; number = x.number }) (sym two ∙ one) in
      let also : slice_get es j ≡ Some (Part x.lane x.number 0) = there ∙ ap (λ (z : Name). Some (Part z.lane z.number 0)) same in
      let equal = (plan_stays_orderly f v reached).numbered.once (suc i) (suc j) x.lane x.number 0 here also in
      omega (arith, equal)

  none_twice : (i : ℕ) (es : List Entry) → StandsFrom v.plan.entries i es → NoTicketTwice (begun_tickets v.plan es)
  none_twice i [] from = tt
  none_twice i (e ∷ es) from = by_ticket (none_twice (suc i) es (from_next v.plan.entries i e es from)) (begun_ticket v.plan e) refl
    where
      by_ticket : NoTicketTwice (begun_tickets v.plan es) → (o : Option ℕ) → begun_ticket v.plan e ≡ o → NoTicketTwice (cons_option o (begun_tickets v.plan es))
      by_ticket rest None is = rest
      by_ticket rest (Some t) is = (
        λ u has same.
            let x = told_from v.plan (suc i) es u (from_next v.plan.entries i e es from) has in
            let here = place_is v.plan.entries i e es from in
            let b = x.behind in
            let equal = one_place i x.place u e x.entry here x.there (is ∙ ap (λ (k : ℕ). Some k) same) x.tells in
            omega (arith, b, equal),
        rest,
      )

-- No ticket is reported with two entries.
pub tickets_once : (f : Format) (v : SenderView) → IsReached f v → NoTicketTwice (begun_tickets v.plan v.plan.entries)
tickets_once f v reached = none_twice f v reached 0 v.plan.entries (λ j. ap (slice_get v.plan.entries) (omega arith))
