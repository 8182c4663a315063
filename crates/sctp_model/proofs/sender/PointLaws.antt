-- The point is the largest index up to which all after CUM is of abandoned messages, and the FORWARD of a view names of each lane the largest number up to it.
use Rattle.std.proofs.Common.{◌≡◌, ℕ, zero, suc, ◌+◌, ◌-◌, ◌<◌, ◌≤◌, List, [], ◌∷◌, drop, Bool, true, false, Some, refl, sym, ap, ◌∙◌, subst, arith}
use Rattle.std.specs.Prelude.{if◌then◌else◌, slice_get, nat_le}
use Rattle.std.proofs.lemmas.Bool.Decides.{nat_tests}
use Rattle.sctp_model.specs.messages.Format.{Lane}
use Rattle.sctp_model.specs.messages.Plan.{Entry, Part, End, entry_at, IsOf}
use Rattle.sctp_model.specs.sender.SenderView.{SenderView, IsAllAbandoned, IsPoint}
use Rattle.sctp_model.specs.sender.Entries.{entry_lane, entry_number, is_of_abandoned}
use Rattle.sctp_model.specs.sender.Readers.{abandoned_run, point}

-- ---- entries by their index

pub of_itself : (e : Entry) → IsOf (entry_lane e) (entry_number e) e
of_itself (Part l n k) = (refl, refl)
of_itself (End l n) = (refl, refl)

pub is_itself : (l : Lane) (n : ℕ) (e : Entry) → IsOf l n e → (entry_lane e ≡ l) × (entry_number e ≡ n)
is_itself l n (Part k m j) of = (of.0, of.1)
is_itself l n (End k m) of = (of.0, of.1)

pub get-drop : (c : ℕ) (es : List Entry) (j : ℕ) → slice_get es (c + j) ≡ slice_get (drop c es) j
get-drop zero es j = let same : 0 + j ≡ j = omega arith in rw same refl
get-drop (suc c) [] j = refl
get-drop (suc c) (e ∷ es) j = let same : suc c + j ≡ suc (c + j) = omega arith in rw same (get-drop c es j)

-- ---- the run of abandoned entries

run_within : (v : SenderView) (es : List Entry) (j : ℕ) → j < abandoned_run v es → (e : Entry) × (slice_get es j ≡ Some e) × (is_of_abandoned v e ≡ true)
run_within v [] j lt = absurd (omega arith)
run_within v (e ∷ es) j lt = by_test (is_of_abandoned v e) refl lt (λ i low. run_within v es i low)
  where
    by_place : (k : ℕ) → is_of_abandoned v e ≡ true → k < suc (abandoned_run v es) → ((i : ℕ) → i < abandoned_run v es → (d : Entry) × (slice_get es i ≡ Some d) × (is_of_abandoned v d ≡ true))
        → (d : Entry) × (slice_get (e ∷ es) k ≡ Some d) × (is_of_abandoned v d ≡ true)
    by_place zero on less further = (e, refl, on)
    by_place (suc k) on less further = further k (omega arith)

    by_test : (b : Bool) → is_of_abandoned v e ≡ b → j < (if b then suc (abandoned_run v es) else 0) → ((i : ℕ) → i < abandoned_run v es → (d : Entry) × (slice_get es i ≡ Some d) × (is_of_abandoned v d ≡ true))
        → (d : Entry) × (slice_get (e ∷ es) j ≡ Some d) × (is_of_abandoned v d ≡ true)
    by_test false off less further = absurd (omega arith)
    by_test true on less further = by_place j on less further

run_ends : (v : SenderView) (es : List Entry) (e : Entry) → slice_get es (abandoned_run v es) ≡ Some e → is_of_abandoned v e ≡ false
run_ends v [] e is = absurd (cc)
run_ends v (d ∷ es) e is = by_test (is_of_abandoned v d) refl is (λ there. run_ends v es e there)
  where
    by_test : (b : Bool) → is_of_abandoned v d ≡ b → slice_get (d ∷ es) (if b then suc (abandoned_run v es) else 0) ≡ Some e → (slice_get es (abandoned_run v es) ≡ Some e → is_of_abandoned v e ≡ false) → is_of_abandoned v e ≡ false
    by_test true on there further = further there
    by_test false off there further = let same : d ≡ e = cc in subst (λ (x : Entry). is_of_abandoned v x ≡ false) same off

-- an index after CUM, as an offset from it
at_offset : (v : SenderView) (j : ℕ) → entry_at v.plan (suc (v.cum + j)) ≡ slice_get (drop v.cum v.plan.entries) j
at_offset v j = get-drop v.cum v.plan.entries j

pub point_is_point : (v : SenderView) → IsPoint v (point v)
point_is_point v = record {
  from = omega arith;
  abandoned = λ i lo hi.
      let j = i - suc v.cum in
      let place : i ≡ suc (v.cum + (i - suc v.cum)) = omega arith in
      let found = run_within v (drop v.cum v.plan.entries) (i - suc v.cum) (omega arith) in
      let here : entry_at v.plan i ≡ Some found.0 = ap (entry_at v.plan) place ∙ at_offset v (i - suc v.cum) ∙ found.1 in
      (entry_lane found.0, entry_number found.0, found.0, here, of_itself found.0, found.2);
  largest = λ q lo all. by_order q lo all;
}
  where
    by_entry : (l : Lane) (n : ℕ) (e : Entry) → entry_at v.plan (suc (point v)) ≡ Some e → IsOf l n e → v.abandoned l n ≡ true → ⊥
    by_entry l n e here of on =
        let there : slice_get (drop v.cum v.plan.entries) (abandoned_run v (drop v.cum v.plan.entries)) ≡ Some e = sym (at_offset v (abandoned_run v (drop v.cum v.plan.entries))) ∙ here in
        let off = run_ends v (drop v.cum v.plan.entries) e there in
        let same = is_itself l n e of in
        let also : is_of_abandoned v e ≡ true = ap (λ (k : Lane). v.abandoned k (entry_number e)) same.0 ∙ ap (v.abandoned l) same.1 ∙ on in
        cc

    by_order : (q : ℕ) → v.cum ≤ q → IsAllAbandoned v v.cum q → q ≤ point v
    by_order q lo all = by_case (nat_le q (point v)) refl
      where
        by_case : (b : Bool) → nat_le q (point v) ≡ b → q ≤ point v
        by_case true le = grind (arith, nat_tests)
        by_case false over =
            let past : point v < q = grind (arith, nat_tests) in
            let given = all (suc (point v)) (omega arith) (omega arith) in
            absurd (by_entry given.0 given.1 given.2 given.3 given.4 given.5)
