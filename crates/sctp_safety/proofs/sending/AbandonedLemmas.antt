-- What a call that abandons leaves: a withdrawn message, a message given up, or the view as it was.
use Rattle.std.proofs.Common.{◌≡◌, ℕ, inl, inr, ◌⊎◌, ◌↔◌, Bool, true, false, not, ◌&&◌, List, [], ◌∷◌, ◌++◌, Option, Some, None, refl, sym, ap, ◌∙◌, subst, arith}
use Rattle.std.specs.Prelude.{◌==◌, find, if◌then◌else◌}
use Rattle.std.specs.Option.{option_map_or}
use Rattle.std.proofs.lemmas.Bool.{and_parts}
use Rattle.std.proofs.lemmas.Bool.Decides.{nat_tests}
use Rattle.sctp_model.specs.numbers.Lists.{Has}
use Rattle.sctp_model.specs.messages.Format.{Format, Lane, same_lane}
use Rattle.sctp_model.specs.messages.Plan.{Entry, Part, End, entry_at, message_at, IsOf, IsInPart}
use Rattle.sctp_model.specs.sender.SenderView.{Queued, SenderView}
use Rattle.sctp_model.specs.sender.Words.{some_passes}
use Rattle.sctp_model.specs.sender.Entries.{is_of, is_in_part, passes_at}
use Rattle.sctp_model.specs.sender.Abandoning.{Name, name_of, without, is_abandoned, is_covered, with_abandoned, abandon_named, abandon_after}
use Rattle.sctp_model.specs.sender.Readers.{acknowledged}
use Rattle.sctp_model.specs.sender.Reached.{IsReached}
use Rattle.sctp_model.proofs.sender.AbandonCases.{lanes_same, same_lane-self, given_or_before, given_itself}
use Rattle.sctp_model.proofs.sender.EndLaws.{given_stays}
use Rattle.sctp_safety.specs.Told.{HasNumber}
use Rattle.sctp_safety.specs.Abandoned.{IsWithdrawn, Leaves_queue, Waits_not, BecomesAbandoned, AbandonLeaves, Withdraws, Lets_be, Abandons, AbandonIsTaken}
use Rattle.sctp_safety.proofs.plan.InPart.{in_part_open}
use Rattle.sctp_safety.proofs.plan.Searches.{first_meant}
use Rattle.sctp_safety.proofs.plan.NameFacts.{never_both, closed_unless_in_part}
use Rattle.sctp_safety.proofs.sending.ToldLemmas.{IsInOrder, in_order, number_of, none_has, acknowledged_name, tells, gives}

-- ---- a message leaves those that wait

-- if none is found, all stay
none_left : (t : ℕ) (qs : List Queued) → find (λ q. q.message.ticket == t) qs ≡ None → (without t qs ≡ qs) × ((x : Queued) → Has qs x → x.message.ticket ≡ t → ⊥)
none_left t [] none = (refl, λ x has same. absurd has)
none_left t (q ∷ qs) none = by_test (q.message.ticket == t) refl none (λ rest. none_left t qs rest)
  where
    by_test : (b : Bool) → (q.message.ticket == t) ≡ b → (if b then Some q else find (λ x. x.message.ticket == t) qs) ≡ None
        → (find (λ x. x.message.ticket == t) qs ≡ None → (without t qs ≡ qs) × ((x : Queued) → Has qs x → x.message.ticket ≡ t → ⊥))
        → ((if b then qs else q ∷ without t qs) ≡ q ∷ qs) × ((x : Queued) → Has (q ∷ qs) x → x.message.ticket ≡ t → ⊥)
    by_test true on here further = absurd (cc)
    by_test false off here further = (ap (λ (ys : List Queued). q ∷ ys) (further here).0, never)
      where
        never : (x : Queued) → Has (q ∷ qs) x → x.message.ticket ≡ t → ⊥
        never x (inl same) ticket = let mine : q.message.ticket ≡ t = ap (λ (y : Queued). y.message.ticket) same ∙ ticket in let apart = off in grind (arith, nat_tests)
        never x (inr has) ticket = (further here).1 x has ticket

withdrawn : (t : ℕ) (qs : List Queued) → IsWithdrawn t qs (without t qs)
withdrawn t qs = by_found (find (λ q. q.message.ticket == t) qs) refl
  where
    by_found : (o : Option Queued) → find (λ q. q.message.ticket == t) qs ≡ o → IsWithdrawn t qs (without t qs)
    by_found None none = let r = none_left t qs none in subst (λ (ys : List Queued). IsWithdrawn t qs ys) (sym r.0) (Waits_not qs r.1)
    by_found (Some q) found =
        let r = first_meant (λ x. x.message.ticket == t) qs q found in
        let here : q.message.ticket ≡ t = let on = r.is in grind (arith, nat_tests) in
        subst (λ (ys : List Queued). IsWithdrawn t qs ys) (sym r.others)
        (subst (λ (ys : List Queued). IsWithdrawn t ys (r.before ++ r.rest)) (sym r.queue)
        (Leaves_queue r.before r.rest q here (λ x has same. never_both (x.message.ticket == t) (let e = same in grind (arith, nat_tests)) (r.none x has))))

-- ---- a message is given up

-- whose an entry is, both ways
of_test : (l : Lane) (n : ℕ) (e : Entry) → is_of l n e ≡ true → IsOf l n e
of_test l n (Part k m j) is = let r = and_parts (same_lane l k) (n == m) is in (sym (lanes_same l k r.0), let on = r.1 in grind (arith, nat_tests))
of_test l n (End k m) is = let r = and_parts (same_lane l k) (n == m) is in (sym (lanes_same l k r.0), let on = r.1 in grind (arith, nat_tests))

self_same : (n : ℕ) → (n == n) ≡ true
self_same n = grind (arith, nat_tests)

test_of : (l : Lane) (n : ℕ) (e : Entry) → IsOf l n e → is_of l n e ≡ true
test_of l n (Part k m j) is =
    subst (λ (x : Lane). is_of l n (Part x m j) ≡ true) (sym is.0) (subst (λ (x : ℕ). is_of l n (Part l x j) ≡ true) (sym is.1) (rw (same_lane-self l, self_same n) refl))
test_of l n (End k m) is =
    subst (λ (x : Lane). is_of l n (End x m) ≡ true) (sym is.0) (subst (λ (x : ℕ). is_of l n (End l x) ≡ true) (sym is.1) (rw (same_lane-self l, self_same n) refl))

-- a mark stays if the entry isn't the message's
mark_stays : (v : SenderView) (l : Lane) (n i : ℕ) → ((v.marked i && not (passes_at v.plan (λ j e. is_of l n e) i)) ≡ true) ↔ ((v.marked i ≡ true) × ((e : Entry) → entry_at v.plan i ≡ Some e → IsOf l n e → ⊥))
mark_stays v l n i = (λ is. (let r = and_parts (v.marked i) (not (passes_at v.plan (λ j e. is_of l n e) i)) is in (r.0, λ e here of. not_here e here of r.1)), λ is. stays is.0 (entry_at v.plan i) refl is.1)
  where
    not_here : (e : Entry) → entry_at v.plan i ≡ Some e → IsOf l n e → not (passes_at v.plan (λ j x. is_of l n x) i) ≡ true → ⊥
    not_here e here of off = let on = test_of l n e of in let none : not (passes_at v.plan (λ j x. is_of l n x) i) ≡ false = rw here (rw on refl) in never_both (not (passes_at v.plan (λ j x. is_of l n x) i)) off none

    by_entry : (b : Bool) (e : Entry) → is_of l n e ≡ b → (IsOf l n e → ⊥) → not b ≡ true
    by_entry true e on never = absurd (never (of_test l n e on))
    by_entry false e off never = refl

    stays : v.marked i ≡ true → (o : Option Entry) → entry_at v.plan i ≡ o → ((e : Entry) → entry_at v.plan i ≡ Some e → IsOf l n e → ⊥) → (v.marked i && not (some_passes (is_of l n) (entry_at v.plan i))) ≡ true
    stays on None here never = rw (on, here) refl
    stays on (Some e) here never = rw (on, here) (by_entry (is_of l n e) e refl (never e here))

module _ (f : Format) (v : SenderView) (reached : IsReached f v) where
  o : IsInOrder f v
  o = in_order f v reached

  -- the test says whether the message is in part
  in_part_is : (l : Lane) (n : ℕ) → is_in_part v l n ≡ false → (t : ℕ) (h : HasNumber v t) → h.lane ≡ l → h.number ≡ n → IsInPart v.plan l n → ⊥
  in_part_is l n off t h lane number open_now =
      let named = subst (λ (k : Lane). message_at v.plan k n ≡ Some h.message) lane (subst (λ (m : ℕ). message_at v.plan h.lane m ≡ Some h.message) number h.named) in
      open_now.1 (closed_unless_in_part o.format v o.plan o.ends l n h.message named off)

  is_in_part_on : (l : Lane) (n t : ℕ) (h : HasNumber v t) → h.lane ≡ l → h.number ≡ n → is_in_part v l n ≡ true → IsInPart v.plan l n
  is_in_part_on l n t h lane number on =
      let named = subst (λ (k : Lane). message_at v.plan k n ≡ Some h.message) lane (subst (λ (m : ℕ). message_at v.plan h.lane m ≡ Some h.message) number h.named) in
      ((o.plan).begun l n h.message named, λ closed. in_part_open o.format v o.plan o.ends l n on closed)

  becomes_abandoned : (t : ℕ) (n : Name) (h : HasNumber v t) → h.lane ≡ n.lane → h.number ≡ n.number → BecomesAbandoned v (with_abandoned v n) n.lane n.number
  becomes_abandoned t n h lane number = record {
    abandoned = λ k m. (λ is. given_or_before v n k m is, λ is. back k m is);
    marked = λ i. mark_stays v n.lane n.number i;
    ended = λ open_now. by_part (is_in_part v n.lane n.number) refl open_now;
    whole = λ closed. by_whole (is_in_part v n.lane n.number) refl closed;
    others = refl;
  }
    where
      back : (k : Lane) (m : ℕ) → ((k ≡ n.lane) × (m ≡ n.number)) ⊎ (v.abandoned k m ≡ true) → (with_abandoned v n).abandoned k m ≡ true
      back k m (inl same) = subst (λ (x : Lane). (with_abandoned v n).abandoned x m ≡ true) (sym same.0) (subst (λ (x : ℕ). (with_abandoned v n).abandoned n.lane x ≡ true) (sym same.1) (given_itself v n))
      back k m (inr before) = given_stays v n k m before

      by_part : (b : Bool) → is_in_part v n.lane n.number ≡ b → IsInPart v.plan n.lane n.number → (with_abandoned v n).plan ≡ record v.plan { entries = v.plan.entries ++ End n.lane n.number ∷ [] }
      by_part true on open_now = rw on refl
      by_part false off open_now = absurd (in_part_is n.lane n.number off t h lane number open_now)

      by_whole : (b : Bool) → is_in_part v n.lane n.number ≡ b → (IsInPart v.plan n.lane n.number → ⊥) → (with_abandoned v n).plan ≡ v.plan
      by_whole true on closed = absurd (closed (is_in_part_on n.lane n.number t h lane number on))
      by_whole false off closed = rw off refl

  taken : (t : ℕ) → AbandonLeaves v t (abandon_after v t)
  taken t = by_name (name_of v t) refl
    where
      by_tests : (n : Name) → name_of v t ≡ Some n → (p : Bool) → v.partial ≡ p → (a : Bool) → is_abandoned v n ≡ a → (c : Bool) → is_covered v n ≡ c
          → AbandonLeaves v t (if p && (not a && not c) then with_abandoned v n else v)
      by_tests n is false off a given c cover = Lets_be (number_of f v reached t n is) (inr (inr off))
      by_tests n is true on true given c cover = Lets_be (number_of f v reached t n is) (inl (record { has = number_of f v reached t n is; given = given }))
      by_tests n is true on false kept true cover = Lets_be (number_of f v reached t n is) (inr (inl (acknowledged_name f v reached t n is cover kept)))
      by_tests n is true on false kept false cover =
          Abandons (with_abandoned v n) (number_of f v reached t n is)
          (λ w. let told = gives f v reached t w in never_both (some_passes (is_abandoned v) (name_of v t)) told (rw is kept))
          (λ w. let told = tells f v reached t w in never_both (acknowledged v t) told (rw is (rw cover refl)))
          on (becomes_abandoned t n (number_of f v reached t n is) refl refl)

      by_name : (x : Option Name) → name_of v t ≡ x → AbandonLeaves v t (option_map_or (abandon_named v) x (record v { queue = without t v.queue }))
      by_name None none = Withdraws (without t v.queue) (none_has f v reached t none) (withdrawn t v.queue)
      by_name (Some n) some = by_tests n some v.partial refl (is_abandoned v n) refl (is_covered v n) refl

pub abandon_is_taken : AbandonIsTaken
abandon_is_taken f v t reached = taken f v reached t
