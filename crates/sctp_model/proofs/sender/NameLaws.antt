-- A message by its ticket: its entries are those whose message has the ticket, and it is in part if some stream goes on with it.
use Rattle.std.proofs.Common.{◌≡◌, ℕ, zero, suc, ◌<◌, List, [], ◌∷◌, Bool, true, false, Option, Some, None, refl, sym, ap, ◌∙◌, subst, arith}
use Rattle.std.specs.Prelude.{◌==◌, not, ◌&&◌, ◌||◌}
use Rattle.std.proofs.lemmas.Bool.{and_parts}
use Rattle.std.proofs.lemmas.Bool.Decides.{nat_tests}
use Rattle.sctp_model.specs.messages.Format.{Format, Lane, same_lane}
use Rattle.sctp_model.specs.messages.Plan.{Entry, Part, Plan, message_at}
use Rattle.sctp_model.specs.sender.SenderView.{SenderView}
use Rattle.sctp_model.specs.sender.Entries.{entry_lane, entry_number, entry_message, is_of, is_in_part, any_from, continued}
use Rattle.sctp_model.specs.sender.Words.{some_passes}
use Rattle.sctp_model.specs.sender.Abandoning.{Name, name_of, name_among, has_ticket, has_uncovered}
use Rattle.sctp_model.specs.sender.Reached.{IsReached}
use Rattle.sctp_model.proofs.sender.AbandonCases.{lanes_same, same_lane-self}
use Rattle.sctp_model.proofs.sender.PlanLaws.{continued_is}
use Rattle.sctp_model.proofs.sender.CountLaws.{is_named, name_found}
use Rattle.sctp_model.proofs.sender.OwnLaws.{Owns, AllOwn, found_owns, latest_owns}
use Rattle.sctp_model.proofs.sender.TicketLaws.{is_ticketed}

-- ---- one message

-- a message of the plan has the ticket exactly if it is the one of that name
pub same_message : (p : Plan) (k t : ℕ) (all : List Entry) (n : Name) (l : Lane) (m : ℕ) → Owns p k all l m → name_among p t all ≡ Some n → has_ticket t (message_at p n.lane n.number) ≡ true
    → has_ticket t (message_at p l m) ≡ (same_lane n.lane l && (n.number == m))
same_message p k t all n l m own is has = by_ticket (has_ticket t (message_at p l m)) refl (same_lane n.lane l && (n.number == m)) refl
  where
    by_ticket : (b : Bool) → has_ticket t (message_at p l m) ≡ b → (c : Bool) → (same_lane n.lane l && (n.number == m)) ≡ c → b ≡ c
    by_ticket true on true name = refl
    by_ticket false off false name = refl
    by_ticket true on false name =
        let mine = (own t on).2 in
        let same : n ≡ record { lane = l; number = m } = let some : Some n ≡ Some (record { lane = l; number = m }) = sym is ∙ mine in cc in
        let self : (m == m) ≡ true = grind (arith, nat_tests) in
        let both : (same_lane n.lane l && (n.number == m)) ≡ true = subst (λ (y : Name). (same_lane y.lane l && (y.number == m)) ≡ true) (sym same) (rw (same_lane-self l, self) refl) in
        absurd (cc)
    by_ticket false off true name =
        let parts = and_parts (same_lane n.lane l) (n.number == m) name in
        let lane = lanes_same n.lane l parts.0 in
        let number : n.number ≡ m = let e = parts.1 in grind (arith, nat_tests) in
        let here : has_ticket t (message_at p l m) ≡ true = subst (λ (y : ℕ). has_ticket t (message_at p l y) ≡ true) number (subst (λ (y : Lane). has_ticket t (message_at p y n.number) ≡ true) lane has) in
        absurd (cc)

-- a search for a message's entries is a search for its ticket
any_same : (p : Plan) (k t : ℕ) (all : List Entry) (n : Name) (test : ℕ → Bool) (i : ℕ) (es : List Entry) → AllOwn p k all es → name_among p t all ≡ Some n → has_ticket t (message_at p n.lane n.number) ≡ true
    → any_from (λ j e. is_of n.lane n.number e && test j) i es ≡ any_from (λ j e. has_ticket t (entry_message p e) && test j) i es
any_same p k t all n test i [] own is has = refl
any_same p k t all n test i (e ∷ es) own is has =
    rw (same_message p k t all n (entry_lane e) (entry_number e) own.0 is has, any_same p k t all n test (suc i) es own.1 is has) refl

pub uncovered_by_ticket : (f : Format) (v : SenderView) (t : ℕ) (n : Name) → IsReached f v → name_of v t ≡ Some n
    → has_uncovered v n ≡ any_from (λ i e. has_ticket t (entry_message v.plan e) && not (v.covered i)) 1 v.plan.entries
uncovered_by_ticket f v t n h is =
    let k = is_ticketed f v h in
    any_same v.plan v.tickets t v.plan.entries n (λ i. not (v.covered i)) 1 v.plan.entries k.owned is (found_owns v.plan v.tickets t v.plan.entries v.plan.entries n k.owned is).1

-- ---- in part

-- the fragment that a stream takes next is of the message with this ticket
abbrev pub goes_on_with : Plan → ℕ → Option Entry → Bool
goes_on_with p t None = false
goes_on_with p t (Some e) = has_ticket t (entry_message p e)

abbrev pub some_stream : (ℕ → Bool) → ℕ → Bool
some_stream test zero = false
some_stream test (suc s) = test s || some_stream test s

some_below : (test : ℕ → Bool) (n s : ℕ) → s < n → test s ≡ true → some_stream test n ≡ true
some_below test zero s lt on = absurd (omega arith)
some_below test (suc n) s lt on = by_last (test n) refl (s == n) refl (λ less. some_below test n s less on)
  where
    by_last : (b : Bool) → test n ≡ b → (c : Bool) → (s == n) ≡ c → (s < n → some_stream test n ≡ true) → (b || some_stream test n) ≡ true
    by_last true is c here further = refl
    by_last false is true here further = let same : s ≡ n = grind (arith, nat_tests) in let off : test s ≡ false = rw same is in absurd (cc)
    by_last false is false here further = further (grind (arith, nat_tests))

none_below : (test : ℕ → Bool) (n : ℕ) → ((s : ℕ) → s < n → test s ≡ false) → some_stream test n ≡ false
none_below test zero off = refl
none_below test (suc n) off = rw (off n (omega arith)) (none_below test n (λ s lt. off s (omega arith)))

-- what a stream goes on with is owned
pub continued_owns : (f : Format) (v : SenderView) (s : ℕ) (e : Entry) → IsReached f v → continued v.plan s ≡ Some e → Owns v.plan v.tickets v.plan.entries (entry_lane e) (entry_number e)
continued_owns f v s e h on =
    let k = is_ticketed f v h in
    let next = continued_is v.streams v.plan s e (is_named f v h) on in
    let before = latest_owns v.plan v.tickets v.plan.entries s v.plan.entries (Part next.lane next.number next.fragment) k.owned next.before in
    subst (λ (x : Entry). Owns v.plan v.tickets v.plan.entries (entry_lane x) (entry_number x)) (sym next.is) before

pub in_part_by_ticket : (f : Format) (v : SenderView) (t : ℕ) (n : Name) → IsReached f v → name_of v t ≡ Some n
    → is_in_part v n.lane n.number ≡ some_stream (λ s. goes_on_with v.plan t (continued v.plan s)) v.streams
in_part_by_ticket f v t n h is = by_part (is_in_part v n.lane n.number) refl
  where
    has : has_ticket t (message_at v.plan n.lane n.number) ≡ true
    has = (found_owns v.plan v.tickets t v.plan.entries v.plan.entries n (is_ticketed f v h).owned is).1

    same : (s : ℕ) (e : Entry) → continued v.plan s ≡ Some e → has_ticket t (entry_message v.plan e) ≡ is_of n.lane n.number e
    same s e on = same_message v.plan v.tickets t v.plan.entries n (entry_lane e) (entry_number e) (continued_owns f v s e h on) is has

    by_next : (o : Option Entry) → continued v.plan n.lane.stream ≡ o → some_passes (is_of n.lane n.number) o ≡ true → goes_on_with v.plan t o ≡ true
    by_next None on here = absurd (cc)
    by_next (Some e) on here = same n.lane.stream e on ∙ here

    off_stream : is_in_part v n.lane n.number ≡ false → (s : ℕ) (o : Option Entry) → continued v.plan s ≡ o → goes_on_with v.plan t o ≡ false
    off_stream off s None on = refl
    off_stream off s (Some e) on = by_mine (is_of n.lane n.number e) refl
      where
        by_mine : (b : Bool) → is_of n.lane n.number e ≡ b → has_ticket t (entry_message v.plan e) ≡ false
        by_mine false not_mine = same s e on ∙ not_mine
        by_mine true mine =
            let next = continued_is v.streams v.plan s e (is_named f v h) on in
            let parts = and_parts (same_lane n.lane (entry_lane e)) (n.number == entry_number e) mine in
            let lane = lanes_same n.lane (entry_lane e) parts.0 in
            let there : (entry_lane e).stream ≡ s = ap (λ (x : Entry). (entry_lane x).stream) next.is ∙ next.on in
            let place : n.lane.stream ≡ s = ap (λ (l : Lane). l.stream) lane ∙ there in
            let here : is_in_part v n.lane n.number ≡ true = ap (some_passes (is_of n.lane n.number)) (ap (continued v.plan) place ∙ on) ∙ mine in
            absurd (cc)

    by_part : (b : Bool) → is_in_part v n.lane n.number ≡ b → b ≡ some_stream (λ s. goes_on_with v.plan t (continued v.plan s)) v.streams
    by_part true on =
        let low = (name_found v.streams v.plan t v.plan.entries n (is_named f v h) is).1 in
        sym (some_below (λ s. goes_on_with v.plan t (continued v.plan s)) v.streams n.lane.stream low (by_next (continued v.plan n.lane.stream) refl on))
    by_part false off = sym (none_below (λ s. goes_on_with v.plan t (continued v.plan s)) v.streams (λ s lt. off_stream off s (continued v.plan s) refl))

-- the stream that goes on with a message is its own
pub goes_on_stream : (f : Format) (v : SenderView) (t s : ℕ) (n : Name) → IsReached f v → name_of v t ≡ Some n → goes_on_with v.plan t (continued v.plan s) ≡ true → n.lane.stream ≡ s
goes_on_stream f v t s n h is on = by_next (continued v.plan s) refl on
  where
    by_next : (o : Option Entry) → continued v.plan s ≡ o → goes_on_with v.plan t o ≡ true → n.lane.stream ≡ s
    by_next None next has = absurd (cc)
    by_next (Some e) next has =
        let own = continued_owns f v s e h next in
        let named = (own t has).2 in
        let same : n ≡ record { lane = entry_lane e; number = entry_number e } = let some : Some n ≡ Some (record { lane = entry_lane e; number = entry_number e }) = sym is ∙ named in cc in
        let part = continued_is v.streams v.plan s e (is_named f v h) next in
        let there : (entry_lane e).stream ≡ s = ap (λ (x : Entry). (entry_lane x).stream) part.is ∙ part.on in
        ap (λ (y : Name). y.lane.stream) same ∙ there
