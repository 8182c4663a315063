-- An abandoned message isn't at its limit of retransmissions, and wearing abandons only messages that are.
use Rattle.std.proofs.Common.{◌≡◌, ℕ, zero, suc, ◌<◌, ◌≤◌, List, [], ◌∷◌, length, Bool, true, false, Option, Some, None, inl, inr, refl, sym, ap, ◌∙◌, subst, arith, length-append}
use Rattle.std.specs.Prelude.{not, ◌&&◌, ◌==◌, if◌then◌else◌, nat_lt, fold, slice_get, option_map, option_and_then, unwrap_or}
use Rattle.std.proofs.lemmas.Bool.{and_parts, cases_lt}
use Rattle.std.proofs.lemmas.Bool.Decides.{nat_tests}
use Rattle.sctp_model.specs.messages.Format.{Format, Lane}
use Rattle.sctp_model.specs.messages.Plan.{Message, Entry, End, Plan, entry_at, message_at}
use Rattle.sctp_model.specs.sender.SenderView.{SenderView}
use Rattle.sctp_model.specs.sender.Words.{some_passes, count_up}
use Rattle.sctp_model.specs.sender.Entries.{entry_lane, entry_number, entry_message, is_of_abandoned, is_unsettled, passes_at}
use Rattle.sctp_model.specs.sender.Abandoning.{Name, name_at, name_of, has_ticket, is_abandoned, with_abandoned, abandon_after, is_used_up, is_worn, is_worn_at, ticket_at, wear_one, worn}
use Rattle.sctp_model.specs.sender.Readers.{abandoned}
use Rattle.sctp_model.specs.sender.Reached.{IsReached, Abandons}
use Rattle.sctp_model.proofs.sender.WordLaws.{some_is}
use Rattle.sctp_model.proofs.sender.AbandonCases.{lanes_same, after_abandon, after_end, given_or_before}
use Rattle.sctp_model.proofs.sender.Bounds.{is_bounded}
use Rattle.sctp_model.proofs.sender.MarkLaws.{entry_kept}
use Rattle.sctp_model.proofs.sender.OwnLaws.{found_owns}
use Rattle.sctp_model.proofs.sender.GivenLaws.{names_given}
use Rattle.sctp_model.proofs.sender.TicketLaws.{is_ticketed}
use Rattle.sctp_model.proofs.sender.WearLands.{own_item}
use Rattle.sctp_send.specs.SenderAnswers.{is_limit_at, is_at_limit}
use Rattle.sctp_send.proofs.abandon.LimitLemmas.{any_off, any_on}

off_of : (b : Bool) → not b ≡ true → b ≡ false
off_of b on = grind arith

clash : {b : Bool} → b ≡ true → b ≡ false → ⊥
clash on off = cc

-- ---- what is worn names its message

-- the ticket at the index of a worn entry names that entry's message
worn_names : (f : Format) (v : SenderView) (i : ℕ) (e : Entry) → IsReached f v → entry_at v.plan i ≡ Some e → is_worn v i e ≡ true → name_of v (ticket_at v i) ≡ Some (name_at e)
worn_names f v i e h there worn_out =
    let may = and_parts v.partial (some_passes (is_used_up (v.repeats i)) (entry_message v.plan e)) worn_out in
    let used = some_is (is_used_up (v.repeats i)) (entry_message v.plan e) may.1 in
    let whose : option_and_then (entry_message v.plan) (entry_at v.plan i) ≡ Some used.0 = ap (option_and_then (entry_message v.plan)) there ∙ used.1 in
    let ticket : ticket_at v i ≡ used.0.ticket = ap (λ (o : Option Message). unwrap_or (option_map (λ x. x.ticket) o) 0) whose in
    let own = own_item v.plan v.tickets v.plan.entries v.plan.entries i e (is_ticketed f v h).owned there in
    let self : (used.0.ticket == used.0.ticket) ≡ true = grind (arith, nat_tests) in
    let has : some_passes (λ (x : Message). x.ticket == used.0.ticket) (entry_message v.plan e) ≡ true = ap (some_passes (λ (x : Message). x.ticket == used.0.ticket)) used.1 ∙ self in
    ap (name_of v) ticket ∙ (own used.0.ticket has).2

-- ---- abandoned messages

pub gone_is_not : (f : Format) (v : SenderView) (t : ℕ) → IsReached f v → abandoned v t ≡ true → is_at_limit v t ≡ false
gone_is_not f v t h on = any_off (λ i. is_limit_at v i && (ticket_at v i == t)) 1 (length v.plan.entries) (λ j lo hi. each j)
  where
    lost : (j : ℕ) → is_limit_at v j ≡ true → ticket_at v j ≡ t → ⊥
    lost j at same =
        let named = some_is (is_abandoned v) (name_of v t) on in
        let parts = and_parts (nat_lt v.cum j) (passes_at v.plan (λ i e. not (is_of_abandoned v e) && is_worn v i e) j) at in
        let there = some_is (λ e. not (is_of_abandoned v e) && is_worn v j e) (entry_at v.plan j) parts.1 in
        let tests = and_parts (not (is_of_abandoned v there.0)) (is_worn v j there.0) there.2 in
        let names : name_of v t ≡ Some (name_at there.0) = ap (name_of v) (sym same) ∙ worn_names f v j there.0 h there.1 tests.1 in
        let one : named.0 ≡ name_at there.0 = let two : Some named.0 ≡ Some (name_at there.0) = sym named.1 ∙ names in cc in
        let gone_so : is_of_abandoned v there.0 ≡ true = subst (λ (n : Name). is_abandoned v n ≡ true) one named.2 in
        clash gone_so (off_of (is_of_abandoned v there.0) tests.0)

    each : (j : ℕ) → (is_limit_at v j && (ticket_at v j == t)) ≡ false
    each j = grind (arith, nat_tests, lost j)

-- ---- what wearing leaves

-- a message that was abandoned is
grown_given : (v : SenderView) (n : Name) (l : Lane) (k : ℕ) → v.abandoned l k ≡ true → (with_abandoned v n).abandoned l k ≡ true
grown_given v n l k on = grind (arith, on, lanes_same l n.lane)

-- so far: messages, entries and counts are those of the first view, and what was abandoned was at its limit there
record IsLeft (v u : SenderView) : Type 0 where
  names : (x : ℕ) → name_of u x ≡ name_of v x
  messages : u.plan.messages ≡ v.plan.messages
  longer : length v.plan.entries ≤ length u.plan.entries
  entries : (i : ℕ) → i ≤ length v.plan.entries → entry_at u.plan i ≡ entry_at v.plan i
  sent : u.sent ≡ v.sent
  repeats : u.repeats ≡ v.repeats
  covered : u.covered ≡ v.covered
  partial : u.partial ≡ v.partial
  grown : (l : Lane) (n : ℕ) → v.abandoned l n ≡ true → u.abandoned l n ≡ true
  only : (x : ℕ) → abandoned u x ≡ true → abandoned v x ≡ false → is_at_limit v x ≡ true

-- a message has one ticket
one_ticket : (m : Option Message) (t x : ℕ) → has_ticket t m ≡ true → has_ticket x m ≡ true → t ≡ x
one_ticket None t x on also = absurd (cc)
one_ticket (Some m) t x on also = grind (arith, nat_tests, on, also)

-- a message of which an entry is worn later was at its limit
was_at_limit : (f : Format) (v u : SenderView) (test : ℕ → Bool) (i : ℕ) → IsReached f v → IsLeft v u → is_worn_at test u i ≡ true → is_at_limit v (ticket_at u i) ≡ true
was_at_limit f v u test i h k on = any_on (λ j. is_limit_at v j && (ticket_at v j == ticket_at u i)) 1 (length v.plan.entries) i (some i there.1) (omega (arith, within)) both
  where
    there : (e : Entry) × (entry_at u.plan i ≡ Some e) × ((is_unsettled u i e && is_worn u i e) ≡ true)
    there = some_is (λ e. is_unsettled u i e && is_worn u i e) (entry_at u.plan i) (and_parts (test i) (passes_at u.plan (λ j e. is_unsettled u j e && is_worn u j e) i) on).1

    e : Entry
    e = there.0

    some : (j : ℕ) → entry_at u.plan j ≡ Some e → 1 ≤ j
    some zero is = absurd (cc)
    some (suc j) is = omega arith

    went : u.sent i ≡ true
    went = grind (arith, there.2)

    outstanding : u.covered i ≡ false
    outstanding = grind (arith, there.2)

    kept : is_of_abandoned u e ≡ false
    kept = grind (arith, there.2)

    worn_out : is_worn u i e ≡ true
    worn_out = grind (arith, there.2)

    within : i ≤ length v.plan.entries
    within = elim (cases_lt (length v.plan.entries) i) [
      | inr low ↦ low
      | inl past ↦ absurd (clash went (ap (λ (g : ℕ → Bool). g i) k.sent ∙ (is_bounded f v h).unsent i past))
    ]

    here : entry_at v.plan i ≡ Some e
    here = sym (k.entries i within) ∙ there.1

    above : v.cum < i
    above = elim (cases_lt v.cum i) [
      | inl lt ↦ lt
      | inr low ↦ absurd (let lo = some i there.1 in clash (ap (λ (g : ℕ → Bool). g i) k.covered ∙ (is_bounded f v h).covered i (omega (arith, lo)) low) outstanding)
    ]

    not_gone : is_of_abandoned v e ≡ false
    not_gone = grind (arith, kept, k.grown (entry_lane e) (entry_number e))

    same_message : entry_message v.plan e ≡ entry_message u.plan e
    same_message = ap (λ (ms : Lane → List Message). slice_get (ms (entry_lane e)) (entry_number e)) (sym k.messages)

    is_worn_still : is_worn v i e ≡ true
    is_worn_still =
        ap (λ (p : Bool). p && some_passes (is_used_up (v.repeats i)) (entry_message v.plan e)) (sym k.partial)
        ∙ ap (λ (r : ℕ → ℕ). u.partial && some_passes (is_used_up (r i)) (entry_message v.plan e)) (sym k.repeats)
        ∙ ap (λ (m : Option Message). u.partial && some_passes (is_used_up (u.repeats i)) m) same_message
        ∙ worn_out

    ticket : ticket_at v i ≡ ticket_at u i
    ticket =
        ap (λ (o : Option Entry). unwrap_or (option_map (λ m. m.ticket) (option_and_then (entry_message v.plan) o)) 0) here
        ∙ ap (λ (m : Option Message). unwrap_or (option_map (λ y. y.ticket) m) 0) same_message
        ∙ sym (ap (λ (o : Option Entry). unwrap_or (option_map (λ m. m.ticket) (option_and_then (entry_message u.plan) o)) 0) there.1)

    both : (is_limit_at v i && (ticket_at v i == ticket_at u i)) ≡ true
    both = grind (arith, nat_tests, above, ticket, here, not_gone, is_worn_still)

-- ---- index after index

left_given : (f : Format) (v u : SenderView) (t : ℕ) (n : Name) → IsReached f u → IsLeft v u → name_of u t ≡ Some n → is_at_limit v t ≡ true → IsLeft v (with_abandoned u n)
left_given f v u t n h k is at = record {
  names = λ x. names_given f u t n h is x ∙ k.names x;
  messages = after_end (λ (p : Plan). p.messages ≡ v.plan.messages) u n (λ off. k.messages) (λ on. k.messages);
  longer = after_end (λ (p : Plan). length v.plan.entries ≤ length p.entries) u n (λ off. k.longer) (λ on. let long = length-append u.plan.entries (End n.lane n.number ∷ []) in let le = k.longer in omega (arith, long, le));
  entries = after_end (λ (p : Plan). (i : ℕ) → i ≤ length v.plan.entries → entry_at p i ≡ entry_at v.plan i) u n (λ off. k.entries)
      (λ on i low. entry_kept u.plan.entries (End n.lane n.number ∷ []) i (let le = k.longer in omega (arith, low, le)) ∙ k.entries i low);
  sent = k.sent;
  repeats = k.repeats;
  covered = k.covered;
  partial = k.partial;
  grown = λ l m on. grown_given u n l m (k.grown l m on);
  only = λ x on off. only x on off;
}
  where
    only : (x : ℕ) → abandoned (with_abandoned u n) x ≡ true → abandoned v x ≡ false → is_at_limit v x ≡ true
    only x on off =
        let named = some_is (is_abandoned (with_abandoned u n)) (name_of (with_abandoned u n) x) on in
        let before : name_of u x ≡ Some named.0 = sym (names_given f u t n h is x) ∙ named.1 in
        elim (given_or_before u n named.0.lane named.0.number named.2) [
          | inr was ↦ k.only x (ap (some_passes (is_abandoned u)) before ∙ was) off
          | inl this ↦
              let owned = (is_ticketed f u h).owned in
              let mine = (found_owns u.plan u.tickets t u.plan.entries u.plan.entries n owned is).1 in
              let its = (found_owns u.plan u.tickets x u.plan.entries u.plan.entries named.0 owned before).1 in
              let here : has_ticket x (message_at u.plan n.lane n.number) ≡ true =
              subst (λ (y : ℕ). has_ticket x (message_at u.plan n.lane y) ≡ true) this.1 (subst (λ (y : Lane). has_ticket x (message_at u.plan y named.0.number) ≡ true) this.0 its) in
              subst (λ (y : ℕ). is_at_limit v y ≡ true) (one_ticket (message_at u.plan n.lane n.number) t x mine here) at
        ]

left_one : (f : Format) (v u : SenderView) (test : ℕ → Bool) (i : ℕ) → IsReached f v → IsReached f u → IsLeft v u → IsLeft v (wear_one test u i)
left_one f v u test i h reached k = by_worn (is_worn_at test u i) refl
  where
    by_worn : (b : Bool) → is_worn_at test u i ≡ b → IsLeft v (if b then abandon_after u (ticket_at u i) else u)
    by_worn false off = k
    by_worn true on = after_abandon (IsLeft v) u (ticket_at u i) k (λ waiting. assumption k) (λ n is kept. left_given f v u (ticket_at u i) n reached k is (was_at_limit f v u test i h k on))

left_all : (f : Format) (v u : SenderView) (test : ℕ → Bool) (is : List ℕ) → IsReached f v → IsReached f u → IsLeft v u → IsLeft v (fold (wear_one test) u is)
left_all f v u test [] h reached k = k
left_all f v u test (i ∷ is) h reached k = left_all f v (wear_one test u i) test is h (grind (arith, Abandons u (ticket_at u i) reached)) (left_one f v u test i h reached k)

pub worn_only : (f : Format) (v : SenderView) (test : ℕ → Bool) (t : ℕ) → IsReached f v → abandoned (worn test v) t ≡ true → abandoned v t ≡ false → is_at_limit v t ≡ true
worn_only f v test t h =
    let longer : length v.plan.entries ≤ length v.plan.entries = omega arith in
    let only : (x : ℕ) → abandoned v x ≡ true → abandoned v x ≡ false → is_at_limit v x ≡ true = λ x on off. absurd (clash on off) in
    (left_all f v v test (count_up 1 (length v.plan.entries)) h h (assumption (longer, only))).only t
