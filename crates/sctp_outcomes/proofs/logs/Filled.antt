-- What a packet's fragments leave of a sender's tickets and numbers: the newly numbered are after all before them.
use Rattle.std.proofs.Common.{◌≡◌, ℕ, zero, suc, ◌-◌, ◌<◌, ◌≤◌, Bool, true, false, List, [], ◌∷◌, ◌++◌, length, drop, Option, Some, None, inl, inr, refl, sym, subst, ap, ◌∙◌, arith, length-append}
use Rattle.std.specs.Prelude.{◌==◌, nat_lt, option_and_then}
use Rattle.std.specs.Option.{option_or, option_map_or}
use Rattle.std.proofs.lemmas.List.{append-nil, append_assoc}
use Rattle.std.proofs.lemmas.List.Elements.{filter_map-append}
use Rattle.sctp_model.specs.numbers.Lists.{Has}
use Rattle.sctp_model.specs.messages.Format.{Format, Lane, same_lane}
use Rattle.sctp_model.specs.messages.Plan.{Message, Entry, Part, End, Plan, message_at, parts_from}
use Rattle.sctp_model.specs.sender.SenderView.{Queued, SenderView}
use Rattle.sctp_model.specs.sender.Words.{when}
use Rattle.sctp_model.specs.sender.Entries.{entry_lane, entry_number, entry_message, fragments_in, latest, next_part, continued}
use Rattle.sctp_model.specs.sender.Assigning.{with_message}
use Rattle.sctp_model.specs.sender.Filling.{Wish, next_wish, goes, gone, room_of, before_these, no_more, fill_at_most, fill, is_first, begun_ticket, begun_tickets, newly_numbered}
use Rattle.sctp_model.proofs.sender.WordLaws.{when_there}
use Rattle.sctp_model.proofs.sender.AbandonCases.{lanes_same, same_lane-self}
use Rattle.sctp_model.proofs.sender.PlanLaws.{message_stays}
use Rattle.sctp_model.proofs.sender.WishCases.{IsAssigned, Whole, Begun, Continued, after_wish}
use Rattle.sctp_model.proofs.sender.FillLaws.{goes_parts}
use Rattle.sctp_outcomes.specs.Kept.{IsNamed}
use Rattle.sctp_outcomes.proofs.logs.Senders.{has_cases, named_more}

-- ---- a plan that gains entries

-- the entry is of a message that has its number
abbrev HasNumber : Plan → Entry → Type 0
HasNumber p e = entry_number e < length (p.messages (entry_lane e))

-- The one has all entries of the other, which are of the messages that they were of.
pub record Grows (v u : SenderView) : Type 0 where
  pub more : List Entry
  pub entries : u.plan.entries ≡ v.plan.entries ++ more
  pub messages : (e : Entry) → HasNumber v.plan e → entry_message u.plan e ≡ entry_message v.plan e
  pub counts : (l : Lane) → length (v.plan.messages l) ≤ length (u.plan.messages l)
  pub named : IsNamed u.plan
  pub tickets : u.tickets ≡ v.tickets

pub grows_not : (v u : SenderView) → u.plan ≡ v.plan → u.tickets ≡ v.tickets → IsNamed v.plan → Grows v u
grows_not v u same tickets named = record {
  more = [];
  entries = ap (λ (p : Plan). p.entries) same ∙ sym (append-nil v.plan.entries);
  messages = λ e has. ap (λ (p : Plan). entry_message p e) same;
  counts = λ l. subst (λ (p : Plan). length (v.plan.messages l) ≤ length (p.messages l)) (sym same) (omega arith);
  named = subst IsNamed (sym same) named;
  tickets = tickets;
}

pub grows_on : (v u w : SenderView) → Grows v u → Grows u w → Grows v w
grows_on v u w a b = record {
  more = a.more ++ b.more;
  entries = b.entries ∙ ap (λ (es : List Entry). es ++ b.more) a.entries ∙ append_assoc v.plan.entries a.more b.more;
  messages = λ e has. b.messages e (let n = a.counts (entry_lane e) in let h = has in omega (arith, n, h)) ∙ a.messages e has;
  counts = λ l. let m = a.counts l in let n = b.counts l in omega (arith, m, n);
  named = b.named;
  tickets = b.tickets ∙ a.tickets;
}

-- ---- a message takes its number

longer : (p : Plan) (q : Queued) (d : ℕ) (l : Lane) → length (p.messages l) ≤ length ((with_message p q d).messages l)
longer p q d l = go (same_lane l q.lane) refl
  where
    go : (b : Bool) → same_lane l q.lane ≡ b → length (p.messages l) ≤ length ((with_message p q d).messages l)
    go false is = rw is (omega arith)
    go true is = let same = lanes_same l q.lane is in rw (is, same) (omega (arith, length-append (p.messages q.lane) (q.message ∷ [])))

own_number : (p : Plan) (q : Queued) (d : ℕ) → length (p.messages q.lane) < length ((with_message p q d).messages q.lane)
own_number p q d = rw (same_lane-self q.lane) (omega (arith, length-append (p.messages q.lane) (q.message ∷ [])))

-- the fragments of one message
part_is : (l : Lane) (n k d : ℕ) (e : Entry) → Has (parts_from l n k d) e → (entry_lane e ≡ l) × (entry_number e ≡ n)
part_is l n k zero e has = absurd has
part_is l n k (suc d) e (inl same) = (subst (λ (x : Entry). entry_lane x ≡ l) same refl, subst (λ (x : Entry). entry_number x ≡ n) same refl)
part_is l n k (suc d) e (inr has) = part_is l n (suc k) d e has

named_with : (p : Plan) (q : Queued) (d : ℕ) → IsNamed p → IsNamed (with_message p q d)
named_with p q d named e has =
    elim (has_cases p.entries (parts_from q.lane (length (p.messages q.lane)) 0 d) e has) [
      | inl old ↦ let low = named e old in let more = longer p q d (entry_lane e) in omega (arith, low, more)
      | inr new ↦
          let is = part_is q.lane (length (p.messages q.lane)) 0 d e new in
          subst (λ (n : ℕ). n < length ((with_message p q d).messages (entry_lane e))) (sym is.1)
          (subst (λ (l : Lane). length (p.messages q.lane) < length ((with_message p q d).messages l)) (sym is.0) (own_number p q d))
    ]

stays : (p : Plan) (q : Queued) (d : ℕ) (e : Entry) → HasNumber p e → entry_message (with_message p q d) e ≡ entry_message p e
stays p q d e has = message_stays (suc (entry_lane e).stream) p q d e (record { number = has; stream = omega arith })

-- ---- a message goes on

latest_has : (s : ℕ) (es : List Entry) (x : Entry) → latest s es ≡ Some x → Has es x
latest_has s [] x is = absurd (cc)
latest_has s (e ∷ es) x is = go (latest s es) refl is (λ found. latest_has s es x found)
  where
    go : (o : Option Entry) → latest s es ≡ o → option_or o (when ((entry_lane e).stream == s) e) ≡ Some x → (latest s es ≡ Some x → Has es x) → Has (e ∷ es) x
    go (Some y) found here further = let same : y ≡ x = cc in inr (further (found ∙ ap (λ (z : Entry). Some z) same))
    go None found here further = inl (when_there ((entry_lane e).stream == s) e x here).1

next_named : (p : Plan) (s : ℕ) (x : Entry) → IsNamed p → continued p s ≡ Some x → HasNumber p x
next_named p s x named is = go (latest s p.entries) refl is
  where
    go : (o : Option Entry) → latest s p.entries ≡ o → option_and_then (next_part p) o ≡ Some x → HasNumber p x
    go None found here = absurd (cc)
    go (Some (End l n)) found here = absurd (cc)
    go (Some (Part l n k)) found here =
        let next = when_there (nat_lt (suc k) (length (fragments_in (message_at p l n)))) (Part l n (suc k)) x here in
        subst (HasNumber p) next.1 (named (Part l n k) (latest_has s p.entries (Part l n k) found))

-- ---- one wish, and many

pub grows_assigned : (f : Format) (v u : SenderView) → IsNamed v.plan → IsAssigned v f u → Grows v u
grows_assigned _ v _ named (Whole q rest is) = record {
  more = parts_from q.lane (length (v.plan.messages q.lane)) 0 (length q.message.fragments);
  entries = refl;
  messages = λ e has. stays v.plan q (length q.message.fragments) e has;
  counts = longer v.plan q (length q.message.fragments);
  named = named_with v.plan q (length q.message.fragments) named;
  tickets = refl;
}
grows_assigned _ v _ named (Begun s q lt idle first) = record {
  more = parts_from q.lane (length (v.plan.messages q.lane)) 0 1;
  entries = refl;
  messages = λ e has. stays v.plan q 1 e has;
  counts = longer v.plan q 1;
  named = named_with v.plan q 1 named;
  tickets = refl;
}
grows_assigned _ v _ named (Continued s x lt on) = record {
  more = x ∷ [];
  entries = refl;
  messages = λ e has. refl;
  counts = λ l. omega arith;
  named = named_more v.plan x (next_named v.plan s x named on) named;
  tickets = refl;
}

pub grows_gone : (f : Format) (v : SenderView) (w : Wish) → IsNamed v.plan → next_wish f v ≡ Some w → Grows v (gone w)
grows_gone f v w named next =
    after_wish (Grows v) f v w (grows_not v v refl refl named) (λ u is. grows_assigned f v u named is)
    (λ u i g. record { more = g.more; entries = g.entries; messages = g.messages; counts = g.counts; named = g.named; tickets = g.tickets }) next

grows_most : (many : ℕ) (f : Format) (room : ℕ) (v : SenderView) → IsNamed v.plan → Grows v (fill_at_most many f room v).view
grows_most zero f room v named = grows_not v v refl refl named
grows_most (suc many) f room v named = go (goes f room v) refl (λ w known. grows_most many f (room - room_of f w) (gone w) known)
  where
    go : (o : Option Wish) → goes f room v ≡ o → ((w : Wish) → IsNamed (gone w).plan → Grows (gone w) (fill_at_most many f (room - room_of f w) (gone w)).view)
        → Grows v (option_map_or (λ w. before_these w (fill_at_most many f (room - room_of f w) (gone w))) o (no_more v)).view
    go None none further = grows_not v v refl refl named
    go (Some w) some further =
        let first = grows_gone f v w named (goes_parts f room v w some).0 in
        grows_on v (gone w) (fill_at_most many f (room - room_of f w) (gone w)).view first (further w first.named)

pub grows_filled : (f : Format) (room : ℕ) (v : SenderView) → IsNamed v.plan → Grows v (fill f room v).view
grows_filled f room v named = grows_most room f room v named

-- if none goes, nothing changes
fills_nothing : (many : ℕ) (f : Format) (room : ℕ) (v : SenderView) → (fill_at_most many f room v).wishes ≡ [] → (fill_at_most many f room v).view ≡ v
fills_nothing zero f room v none = refl
fills_nothing (suc many) f room v none = go (goes f room v) none
  where
    go : (o : Option Wish) → (option_map_or (λ w. before_these w (fill_at_most many f (room - room_of f w) (gone w))) o (no_more v)).wishes ≡ []
        → (option_map_or (λ w. before_these w (fill_at_most many f (room - room_of f w) (gone w))) o (no_more v)).view ≡ v
    go None empty = refl
    go (Some w) empty = absurd (cc)

pub nothing_filled : (f : Format) (room : ℕ) (v : SenderView) → (fill f room v).wishes ≡ [] → (fill f room v).view ≡ v
nothing_filled f room v none = fills_nothing room f room v none

-- ---- the tickets numbered

tickets_stay : (p r : Plan) (es : List Entry) → ((e : Entry) → Has es e → entry_message r e ≡ entry_message p e) → begun_tickets r es ≡ begun_tickets p es
tickets_stay p r [] same = refl
tickets_stay p r (e ∷ es) same =
    let here : begun_ticket r e ≡ begun_ticket p e = ap (λ (o : Option Message). option_and_then (λ m. when (is_first e) m.ticket) o) (same e (inl refl)) in
    rw (here, tickets_stay p r es (λ x has. same x (inr has))) refl

pub drop_behind : (es ds : List Entry) → drop (length es) (es ++ ds) ≡ ds
drop_behind [] ds = refl
drop_behind (e ∷ es) ds = drop_behind es ds

-- Those newly numbered are after all before them.
pub numbers_grow : (v u : SenderView) → IsNamed v.plan → Grows v u → begun_tickets u.plan u.plan.entries ≡ begun_tickets v.plan v.plan.entries ++ newly_numbered v u
numbers_grow v u named g =
    let new : drop (length v.plan.entries) u.plan.entries ≡ g.more = ap (drop (length v.plan.entries)) g.entries ∙ drop_behind v.plan.entries g.more in
    ap (begun_tickets u.plan) g.entries
    ∙ filter_map-append (begun_ticket u.plan) v.plan.entries g.more
    ∙ ap (λ (ts : List ℕ). ts ++ begun_tickets u.plan g.more) (tickets_stay v.plan u.plan v.plan.entries (λ e has. g.messages e (named e has)))
    ∙ ap (λ (es : List Entry). begun_tickets v.plan v.plan.entries ++ begun_tickets u.plan es) (sym new)
