-- Beyond the end of the last run nothing lies in the runs.
use Rattle.std.proofs.Common.{◌≡◌, ℕ, zero, suc, ◌+◌, ◌<◌, ◌≤◌, ◌∙◌, List, [], ◌∷◌, length, get_or, Bool, true, false, refl, arith}
use Rattle.std.proofs.lemmas.Bool.Decides.{nat_tests}
use Rattle.sctp_model.specs.sender.Words.{when}
use Rattle.sctp_send.specs.CoveredRuns.{in_run, in_runs, AreInOrder, AreCovered}
use Rattle.sctp_send.specs.declared.kept.entry.CoveredRun.{CoveredRun}

last_behind : (n : ℕ) (rs : List CoveredRun) (k : ℕ) (d : CoveredRun) → AreInOrder n rs → suc k ≡ length rs → n ≤ (get_or rs k d).to
last_behind n [] k d order is = absurd (omega arith)
last_behind n (r ∷ rs) zero d order is = let from = order.0 in let to = order.1 in omega (arith, from, to)
last_behind n (r ∷ rs) (suc k) d order is = let from = order.0 in let to = order.1 in let rest = last_behind r.to rs k d order.2 (omega arith) in omega (arith, from, to, rest)

run_before : (r : CoveredRun) (i : ℕ) → r.to < i → in_run r i ≡ false
run_before r i lt = grind (arith, nat_tests)

pub none_past : (n : ℕ) (rs : List CoveredRun) (k i : ℕ) (d : CoveredRun) → AreInOrder n rs → suc k ≡ length rs → (get_or rs k d).to < i → in_runs rs i ≡ false
none_past n [] k i d order is lt = absurd (omega arith)
none_past n (r ∷ []) zero i d order is lt = rw (run_before r i lt) refl
none_past n (r ∷ q ∷ rs) zero i d order is lt = absurd (omega arith)
none_past n (r ∷ rs) (suc k) i d order is lt =
    let behind = last_behind r.to rs k d order.2 (omega arith) in
    rw (run_before r i (omega (arith, behind, lt)), none_past r.to rs k i d order.2 (omega arith) lt) refl

-- so nothing is acknowledged there
pub uncovered_past : (known : Bool) (rs : List CoveredRun) (covered : ℕ → Bool) (cum k i : ℕ) (d : CoveredRun) → known ≡ true → AreCovered (when known rs) covered cum → suc k ≡ length rs → (get_or rs k d).to < i → covered (cum + i) ≡ false
uncovered_past false rs covered cum k i d known h is lt = absurd (cc)
uncovered_past true rs covered cum k i d known h is lt = h.1 i (omega (arith, lt)) ∙ none_past 0 rs k i d h.0 is lt
