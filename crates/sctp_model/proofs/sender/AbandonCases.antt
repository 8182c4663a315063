-- What abandoning a ticket leaves: the view as it was, or less a message that waited, or with a message given up.
use Rattle.std.proofs.Common.{◌≡◌, ℕ, ◌⊎◌, inl, inr, List, [], ◌∷◌, Bool, true, false, Option, Some, None, refl, sym, ap, ◌∙◌, subst, arith}
use Rattle.std.specs.Prelude.{◌==◌, not, ◌&&◌, ◌||◌, if◌then◌else◌}
use Rattle.std.specs.Option.{option_map_or}
use Rattle.std.proofs.lemmas.Bool.{and_parts}
use Rattle.std.proofs.lemmas.Bool.Decides.{nat_tests}
use Rattle.sctp_model.specs.messages.Format.{Kind, Ordered, Unordered, Lane, same_kind, same_lane}
use Rattle.sctp_model.specs.messages.Plan.{End, Plan}
use Rattle.sctp_model.specs.sender.SenderView.{Queued, SenderView}
use Rattle.sctp_model.specs.sender.Entries.{is_in_part}
use Rattle.sctp_model.specs.sender.Assigning.{with_entry}
use Rattle.sctp_model.specs.sender.Abandoning.{Name, name_of, waits, without, is_abandoned, is_covered, ended, with_abandoned, abandon_named, abandon_after}

-- ---- lanes

pub same_lane-self : (l : Lane) → same_lane l l ≡ true
same_lane-self l = let streams : (l.stream == l.stream) ≡ true = grind (arith, nat_tests) in rw streams (of_kind l.kind)
  where
    of_kind : (k : Kind) → same_kind k k ≡ true
    of_kind Ordered = refl
    of_kind Unordered = refl

one_kind : (a b : Kind) → same_kind a b ≡ true → a ≡ b
one_kind Ordered Ordered is = refl
one_kind Ordered Unordered is = absurd (cc)
one_kind Unordered Ordered is = absurd (cc)
one_kind Unordered Unordered is = refl

pub lanes_same : (a b : Lane) → same_lane a b ≡ true → a ≡ b
lanes_same a b is =
    let tests = and_parts (a.stream == b.stream) (same_kind a.kind b.kind) is in
    let streams : a.stream ≡ b.stream = let on = tests.0 in grind (arith, nat_tests) in
    let kinds : a.kind ≡ b.kind = one_kind a.kind b.kind tests.1 in
    ap (λ (s : ℕ). record { stream = s; kind = a.kind }) streams ∙ ap (λ (k : Kind). record { stream = b.stream; kind = k }) kinds

-- ---- without a number

-- if no message has the ticket, none is taken out
pub without_none : (t : ℕ) (qs : List Queued) → waits t qs ≡ false → without t qs ≡ qs
without_none t [] off = refl
without_none t (q ∷ qs) off = by_test (q.message.ticket == t) off (λ rest. without_none t qs rest)
  where
    by_test : (b : Bool) → (b || waits t qs) ≡ false → (waits t qs ≡ false → without t qs ≡ qs) → (if b then qs else q ∷ without t qs) ≡ q ∷ qs
    by_test true none further = absurd (cc)
    by_test false none further = ap (λ (xs : List Queued). q ∷ xs) (further none)

-- ---- with a number

-- the three tests of giving up hold
pub may_be_given : (v : SenderView) (n : Name) → (v.partial && (not (is_abandoned v n) && not (is_covered v n))) ≡ true
    → (v.partial ≡ true) × (is_abandoned v n ≡ false) × (is_covered v n ≡ false)
may_be_given v n is =
    let outer = and_parts v.partial (not (is_abandoned v n) && not (is_covered v n)) is in
    let inner = and_parts (not (is_abandoned v n)) (not (is_covered v n)) outer.1 in
    (outer.0, off (is_abandoned v n) inner.0, off (is_covered v n) inner.1)
  where
    off : (b : Bool) → not b ≡ true → b ≡ false
    off true on = absurd (cc)
    off false on = refl

-- What is so of a view is so after a ticket is abandoned, if it is so after a withdrawal and after a message with a number is given up.
pub after_abandon : (P : SenderView → Type 0) (v : SenderView) (t : ℕ) → P v → (waits t v.queue ≡ true → P (record v { queue = without t v.queue }))
    → ((n : Name) → name_of v t ≡ Some n → is_abandoned v n ≡ false → P (with_abandoned v n)) → P (abandon_after v t)
after_abandon P v t same withdrawn given = by_name (name_of v t) refl
  where
    by_rule : (n : Name) (b : Bool) → name_of v t ≡ Some n → (v.partial && (not (is_abandoned v n) && not (is_covered v n))) ≡ b → P (if b then with_abandoned v n else v)
    by_rule n true is may = given n is (may_be_given v n may).1
    by_rule n false is may = same

    by_wait : (b : Bool) → waits t v.queue ≡ b → P (record v { queue = without t v.queue })
    by_wait true on = withdrawn on
    by_wait false off = subst (λ (qs : List Queued). P (record v { queue = qs })) (sym (without_none t v.queue off)) same

    by_name : (o : Option Name) → name_of v t ≡ o → P (option_map_or (abandon_named v) o (record v { queue = without t v.queue }))
    by_name None is = by_wait (waits t v.queue) refl
    by_name (Some n) is = by_rule n (v.partial && (not (is_abandoned v n) && not (is_covered v n))) is refl

-- ---- the plan with an end mark, or as it was

-- What is so of a plan and of the plan with an entry more is so of what giving up leaves.
pub after_end : (P : Plan → Type 0) (v : SenderView) (n : Name) → (is_in_part v n.lane n.number ≡ false → P v.plan)
    → (is_in_part v n.lane n.number ≡ true → P (with_entry v.plan (End n.lane n.number))) → P (ended v n)
after_end P v n same more = by_part (is_in_part v n.lane n.number) refl
  where
    by_part : (b : Bool) → is_in_part v n.lane n.number ≡ b → P (if b then with_entry v.plan (End n.lane n.number) else v.plan)
    by_part true on = more on
    by_part false off = same off

-- ---- what is abandoned then

-- it is the message given up, or was abandoned before
pub given_or_before : (v : SenderView) (n : Name) (l : Lane) (k : ℕ) → (with_abandoned v n).abandoned l k ≡ true → ((l ≡ n.lane) × (k ≡ n.number)) ⊎ (v.abandoned l k ≡ true)
given_or_before v n l k on = by_lane (same_lane l n.lane) refl on
  where
    by_number : (b : Bool) → (k == n.number) ≡ b → l ≡ n.lane → (if b then true else v.abandoned n.lane k) ≡ true → ((l ≡ n.lane) × (k ≡ n.number)) ⊎ (v.abandoned l k ≡ true)
    by_number true same lane here = inl (lane, grind (arith, nat_tests))
    by_number false other lane here = inr (ap (λ (x : Lane). v.abandoned x k) lane ∙ here)

    by_lane : (b : Bool) → same_lane l n.lane ≡ b → (if b then (λ (j : ℕ). if j == n.number then true else v.abandoned n.lane j) else v.abandoned l) k ≡ true → ((l ≡ n.lane) × (k ≡ n.number)) ⊎ (v.abandoned l k ≡ true)
    by_lane true same here = by_number (k == n.number) refl (lanes_same l n.lane same) here
    by_lane false other here = inr here

-- another message is abandoned if it was before
pub given_other : (v : SenderView) (n : Name) (l : Lane) (k : ℕ) → ((l ≡ n.lane) × (k ≡ n.number) → ⊥) → (with_abandoned v n).abandoned l k ≡ v.abandoned l k
given_other v n l k ne = by_lane (same_lane l n.lane) refl
  where
    by_number : (b : Bool) → (k == n.number) ≡ b → l ≡ n.lane → (if b then true else v.abandoned n.lane k) ≡ v.abandoned l k
    by_number true same lane = absurd (ne (lane, grind (arith, nat_tests)))
    by_number false other lane = ap (λ (x : Lane). v.abandoned x k) (sym lane)

    by_lane : (b : Bool) → same_lane l n.lane ≡ b → (if b then (λ (j : ℕ). if j == n.number then true else v.abandoned n.lane j) else v.abandoned l) k ≡ v.abandoned l k
    by_lane true same = by_number (k == n.number) refl (lanes_same l n.lane same)
    by_lane false other = refl

-- the message itself is abandoned
pub given_itself : (v : SenderView) (n : Name) → is_abandoned (with_abandoned v n) n ≡ true
given_itself v n =
    let number : (n.number == n.number) ≡ true = grind (arith, nat_tests) in
    rw (same_lane-self n.lane) (rw number refl)
