-- A ticket's name: the search over the plan's entries finds the message that has the ticket, and no other; and what is covered of it.
use Rattle.std.proofs.Common.{◌≡◌, ℕ, zero, suc, ◌+◌, inl, inr, Bool, true, false, not, ◌&&◌, List, [], ◌∷◌, Option, Some, None, refl, sym, ap, ◌∙◌, subst, arith}
use Rattle.std.specs.Prelude.{◌==◌, cond, find, slice_get, option_map}
use Rattle.std.proofs.lemmas.Bool.{and_parts, or_parts, or_from, cases_eq, cases_lt}
use Rattle.std.proofs.lemmas.Bool.Decides.{nat_tests}
use Rattle.sctp_model.specs.messages.Format.{Format, Lane, same_lane}
use Rattle.sctp_model.specs.messages.Plan.{Message, Entry, Part, End, entry_at, message_at, IsComplete, IsClosed}
use Rattle.sctp_model.specs.sender.SenderView.{SenderView}
use Rattle.sctp_model.specs.sender.Words.{some_passes}
use Rattle.sctp_model.specs.sender.Entries.{entry_lane, entry_number, entry_message, is_of, is_in_part, any_from, continued}
use Rattle.sctp_model.specs.sender.Abandoning.{Name, name_at, name_of, has_ticket, has_uncovered}
use Rattle.sctp_model.proofs.sender.WordLaws.{found_is, some_is}
use Rattle.sctp_model.proofs.sender.AbandonCases.{lanes_same, same_lane-self}
use Rattle.sctp_safety.proofs.moves.Facts.{IsOrderedPlan}
use Rattle.sctp_safety.proofs.plan.InPart.{AreEndsLast, idle_closed, GoesOnWith, goes_on_with, not_closed}

-- ---- tests

off_of : (b : Bool) → (b ≡ true → ⊥) → b ≡ false
off_of true never = absurd (never refl)
off_of false never = refl

pub never_both : (b : Bool) → b ≡ true → b ≡ false → ⊥
never_both b on off = absurd (cc)

not_true : (b : Bool) → not b ≡ true → b ≡ false
not_true true is = absurd (cc)
not_true false is = refl

self_same : (n : ℕ) → (n == n) ≡ true
self_same n = grind (arith, nat_tests)

-- ---- the search for a ticket

-- if nothing is found, nothing passes
none_found : {A : Type 0} (test : A → Bool) (xs : List A) → find test xs ≡ None → (j : ℕ) (x : A) → slice_get xs j ≡ Some x → test x ≡ false
none_found test [] none j x here = absurd (cc)
none_found test (y ∷ xs) none j x here = by_test (test y) refl none j here (λ rest i there. none_found test xs rest i x there)
  where
    by_test : (b : Bool) → test y ≡ b → cond b (Some y) (find test xs) ≡ None → (j : ℕ) → slice_get (y ∷ xs) j ≡ Some x → (find test xs ≡ None → (i : ℕ) → slice_get xs i ≡ Some x → test x ≡ false) → test x ≡ false
    by_test true on rest j there further = absurd (cc)
    by_test false off rest zero there further = let same : y ≡ x = cc in ap test (sym same) ∙ off
    by_test false off rest (suc j) there further = further rest j there

-- a name that is found is that of a message with the ticket
pub has_number : (v : SenderView) (t : ℕ) (n : Name) → name_of v t ≡ Some n → (m : Message) × (message_at v.plan n.lane n.number ≡ Some m) × (m.ticket ≡ t)
has_number v t n is = by_entry (find (λ e. has_ticket t (entry_message v.plan e)) v.plan.entries) refl is
  where
    by_entry : (o : Option Entry) → find (λ e. has_ticket t (entry_message v.plan e)) v.plan.entries ≡ o → option_map name_at o ≡ Some n → (m : Message) × (message_at v.plan n.lane n.number ≡ Some m) × (m.ticket ≡ t)
    by_entry None none here = absurd (cc)
    by_entry (Some e) found here =
        let same : name_at e ≡ n = cc in
        let r = found_is (λ x. has_ticket t (entry_message v.plan x)) v.plan.entries e found in
        let m = some_is (λ (x : Message). x.ticket == t) (entry_message v.plan e) r.1 in
        (m.0, subst (λ (y : Name). message_at v.plan y.lane y.number ≡ Some m.0) same m.1, let on = m.2 in grind (arith, nat_tests))

module _ (f : Format) (v : SenderView) (a : IsOrderedPlan f v.plan) where
  -- a message with the ticket is found
  pub is_named : (t : ℕ) (l : Lane) (n : ℕ) (m : Message) → message_at v.plan l n ≡ Some m → m.ticket ≡ t → name_of v t ≡ Some (record { lane = l; number = n })
  is_named t l n m named ticket = by_entry (find (λ e. has_ticket t (entry_message v.plan e)) v.plan.entries) refl
    where
      passes : has_ticket t (message_at v.plan l n) ≡ true
      passes = rw named (let same = ticket in grind (arith, nat_tests))

      none_there : find (λ e. has_ticket t (entry_message v.plan e)) v.plan.entries ≡ None → (i : ℕ) → entry_at v.plan i ≡ Some (Part l n 0) → ⊥
      none_there none zero here = absurd (cc)
      none_there none (suc i) here = never_both (has_ticket t (message_at v.plan l n)) passes (none_found (λ e. has_ticket t (entry_message v.plan e)) v.plan.entries none i (Part l n 0) here)

      by_entry : (o : Option Entry) → find (λ e. has_ticket t (entry_message v.plan e)) v.plan.entries ≡ o → option_map name_at o ≡ Some (record { lane = l; number = n })
      by_entry None none = let first = a.begun l n m named in absurd (none_there none first.0 first.1)
      by_entry (Some e) found =
          let r = has_number v t (name_at e) (ap (λ (o : Option Entry). option_map name_at o) found) in
          let tickets : r.0.ticket ≡ m.ticket = r.2 ∙ sym ticket in
          let same = a.different (entry_lane e) l (entry_number e) n r.0 m r.1 named tickets in
          ap (λ (y : Lane). Some (record { lane = y; number = entry_number e })) same.0 ∙ ap (λ (k : ℕ). Some (record { lane = l; number = k })) same.1

  -- ---- in part

  -- a message that isn't in part takes no further index
  pub closed_unless_in_part : AreEndsLast v.plan → (l : Lane) (n : ℕ) (m : Message) → message_at v.plan l n ≡ Some m → is_in_part v l n ≡ false → IsClosed v.plan l n
  closed_unless_in_part ends l n m named whole = by_next (continued v.plan l.stream) refl whole
    where
      by_ticket : (e : Entry) (g : GoesOnWith v.plan l.stream e) → is_of l n e ≡ false → IsClosed v.plan l n
      by_ticket e g other =
          elim (cases_eq m.ticket g.message.ticket) [
            | inl one ↦
                let same = a.different l g.lane n g.number m g.message named g.named one in
                let self : is_of l n (Part l n (suc g.fragment)) ≡ true = rw (same_lane-self l, self_same n) refl in
                let there : is_of l n (Part g.lane g.number (suc g.fragment)) ≡ true =
                subst (λ (k : Lane). is_of l n (Part k g.number (suc g.fragment)) ≡ true) same.0 (subst (λ (k : ℕ). is_of l n (Part l k (suc g.fragment)) ≡ true) same.1 self) in
                absurd (never_both (is_of l n e) (subst (λ (x : Entry). is_of l n x ≡ true) g.same there) other)
            | inr apart ↦ elim (cases_lt m.ticket g.message.ticket) [
              | inl low ↦ a.closed l g.lane n g.number m g.message named g.named (sym g.stream) low
              | inr high ↦ absurd (not_closed v.plan l.stream e g (a.closed g.lane l g.number n g.message m g.named named g.stream (omega (arith, apart, high))))
            ]
          ]

      by_next : (o : Option Entry) → continued v.plan l.stream ≡ o → some_passes (is_of l n) o ≡ false → IsClosed v.plan l n
      by_next None idle off = idle_closed f v.plan a l.stream idle l n m refl named
      by_next (Some e) goes off = by_ticket e (goes_on_with f v.plan a ends l.stream e goes) off

-- ---- what is covered

-- if none passes, each fails
none_any : (test : ℕ → Entry → Bool) (i : ℕ) (es : List Entry) → any_from test i es ≡ false → (j : ℕ) (e : Entry) → slice_get es j ≡ Some e → test (i + j) e ≡ false
none_any test i [] none j e here = absurd (cc)
none_any test i (x ∷ es) none zero e here =
    let same : x ≡ e = cc in
    let at : i + 0 ≡ i = omega arith in
    rw at (ap (test i) (sym same) ∙ (or_parts (test i x) (any_from test (suc i) es) none).0)
none_any test i (x ∷ es) none (suc j) e here =
    let at : i + suc j ≡ suc i + j = omega arith in
    rw at (none_any test (suc i) es (or_parts (test i x) (any_from test (suc i) es) none).1 j e here)

any_none : (test : ℕ → Entry → Bool) (i : ℕ) (es : List Entry) → ((j : ℕ) (e : Entry) → slice_get es j ≡ Some e → test (i + j) e ≡ false) → any_from test i es ≡ false
any_none test i [] none = refl
any_none test i (x ∷ es) none =
    let at : i + 0 ≡ i = omega arith in
    or_from (test i x) (any_from test (suc i) es) (rw at at (none 0 x refl))
    (any_none test (suc i) es (λ j e here. let next : i + suc j ≡ suc i + j = omega arith in rw next at (none (suc j) e here)))

-- each index of the message is covered
abbrev pub IsAllCovered : SenderView → Lane → ℕ → Type 0
IsAllCovered v l n = (i k : ℕ) → entry_at v.plan i ≡ Some (Part l n k) → v.covered i ≡ true

pub all_covered : (v : SenderView) (l : Lane) (n : ℕ) → has_uncovered v (record { lane = l; number = n }) ≡ false → IsAllCovered v l n
all_covered v l n none zero k here = absurd (cc)
all_covered v l n none (suc i) k here = by_cover (v.covered (suc i)) refl
  where
    test : (is_of l n (Part l n k) && not (v.covered (suc i))) ≡ false
    test = let at : 1 + i ≡ suc i = omega arith in rw at at (none_any (λ j e. is_of l n e && not (v.covered j)) 1 v.plan.entries none i (Part l n k) here)

    by_cover : (b : Bool) → v.covered (suc i) ≡ b → b ≡ true
    by_cover true on = refl
    by_cover false off = let on : (is_of l n (Part l n k) && not (v.covered (suc i))) ≡ true = rw (same_lane-self l, self_same n, off) refl in absurd (never_both (is_of l n (Part l n k) && not (v.covered (suc i))) on test)

pub covered_all : (f : Format) (v : SenderView) → IsOrderedPlan f v.plan → (l : Lane) (n : ℕ) (m : Message) → IsComplete v.plan l n m → IsAllCovered v l n → has_uncovered v (record { lane = l; number = n }) ≡ false
covered_all f v a l n m complete all = any_none (λ j e. is_of l n e && not (v.covered j)) 1 v.plan.entries (λ j e here. by_name j e here (is_of l n e) refl)
  where
    by_entry : (j : ℕ) (e : Entry) → slice_get v.plan.entries j ≡ Some e → is_of l n e ≡ true → not (v.covered (suc j)) ≡ false
    by_entry j (Part k o d) here of =
        let parts = and_parts (same_lane l k) (n == o) of in
        let lane : l ≡ k = lanes_same l k parts.0 in
        let number : n ≡ o = let on = parts.1 in grind (arith, nat_tests) in
        let mine : slice_get v.plan.entries j ≡ Some (Part l n d) =
        here ∙ ap (λ (x : Lane). Some (Part x o d)) (sym lane) ∙ ap (λ (x : ℕ). Some (Part l x d)) (sym number) in
        rw (all (suc j) d mine) refl
    by_entry j (End k o) here of =
        let parts = and_parts (same_lane l k) (n == o) of in
        let lane : l ≡ k = lanes_same l k parts.0 in
        let number : n ≡ o = let on = parts.1 in grind (arith, nat_tests) in
        let mine : slice_get v.plan.entries j ≡ Some (End l n) = here ∙ ap (λ (x : Lane). Some (End x o)) (sym lane) ∙ ap (λ (x : ℕ). Some (End l x)) (sym number) in
        absurd (a.ended (suc j) l n m mine complete)

    by_name : (j : ℕ) (e : Entry) → slice_get v.plan.entries j ≡ Some e → (b : Bool) → is_of l n e ≡ b → (is_of l n e && not (v.covered (1 + j))) ≡ false
    by_name j e here true of = let at : 1 + j ≡ suc j = omega arith in rw (of, at) (by_entry j e here of)
    by_name j e here false off = rw off refl
