-- Runs of acknowledged entries: kept from the gap blocks of a SACK, and moved as entries in front are removed.
use Rattle.std.proofs.Common.{◌≡◌, ℕ, zero, suc, ◌+◌, ◌-◌, ◌<◌, ◌≤◌, List, [], ◌∷◌, ◌++◌, length, map, set, get_or, take, drop, Bool, true, false, Option, Some, None, refl, ap, ◌∙◌, arith, length-append, length-drop}
use Rattle.std.specs.Prelude.{nat_le, ◌&&◌, ◌||◌, option_map}
use Rattle.std.proofs.lemmas.List.{length-map, length-take}
use Rattle.std.proofs.lemmas.Bool.Decides.{nat_tests}
use Rattle.sctp_model.specs.wire.Chunk.{BlockMeaning}
use Rattle.sctp_model.specs.messages.Acknowledgement.{in_blocks}
use Rattle.sctp_model.specs.sender.Words.{when}
use Rattle.sctp_send.specs.CoveredRuns.{in_run, in_runs, AreInOrder, AreCovered, HoldsBlocks, run_behind, runs_behind}
use Rattle.sctp_send.specs.declared.kept.entry.CoveredRun.{CoveredRun}
use Rattle.sctp_send.proofs.sack.CoverLemmas.{block_run}

-- ---- seen from further on

-- an offset lies in a run just where the same entry's new offset lies in the run as it is seen then
one_behind : (n i : ℕ) (r : CoveredRun) → 0 < i → in_run r (n + i) ≡ in_run (run_behind n r) i
one_behind n i r some = grind (arith, nat_tests)

pub order_behind : (n low here : ℕ) (rs : List CoveredRun) → low ≤ here - n → AreInOrder here rs → AreInOrder low (runs_behind n rs)
order_behind n low here [] le order = tt
order_behind n low here (r ∷ rs) le order = (omega (arith, order.0, le), omega (arith, order.1), order_behind n (r.to - n) r.to rs (omega arith) order.2)

pub all_behind : (n i : ℕ) (rs : List CoveredRun) → 0 < i → in_runs rs (n + i) ≡ in_runs (runs_behind n rs) i
all_behind n i [] some = refl
all_behind n i (r ∷ rs) some = rw (one_behind n i r some, all_behind n i rs some) refl

-- what a SHUTDOWN leaves covered
pub covered_behind : (o : Option (List CoveredRun)) (covered : ℕ → Bool) (cum c n : ℕ) → c ≡ cum + n → AreCovered o covered cum → AreCovered (option_map (runs_behind n) o) (λ j. nat_le j c || covered j) c
covered_behind None covered cum c n is h = tt
covered_behind (Some rs) covered cum c n is h = (
  order_behind n 0 0 rs (omega arith) h.0,
  λ i some.
      let past : nat_le (c + i) c ≡ false = grind (arith, nat_tests) in
      let at_is : c + i ≡ cum + (n + i) = omega arith in
      ap (λ (b : Bool). b || covered (c + i)) past ∙ ap covered at_is ∙ h.1 (n + i) (omega arith) ∙ all_behind n i rs some,
)

-- the first so many of them are seen so
abbrev pub first_behind : (passed at : ℕ) → List CoveredRun → List CoveredRun
first_behind n at rs = map (run_behind n) (take at rs) ++ drop at rs

behind_step : (n at : ℕ) (rs : List CoveredRun) (d : CoveredRun) → at < length rs → set (first_behind n at rs) at (run_behind n (get_or (first_behind n at rs) at d)) ≡ first_behind n (suc at) rs
behind_step n at [] d low = absurd (omega arith)
behind_step n zero (r ∷ rs) d low = refl
behind_step n (suc at) (r ∷ rs) d low = ap (λ (xs : List CoveredRun). run_behind n r ∷ xs) (behind_step n at rs d (omega arith))

pub length-first_behind : (n at : ℕ) (rs : List CoveredRun) → length (first_behind n at rs) ≡ length rs
length-first_behind n at rs = simp (length-append, length-map, length-take, length-drop) (omega arith)

pub behind_more : (n at : ℕ) (rs now : List CoveredRun) (x : CoveredRun) → at < length rs → now ≡ first_behind n at rs → x ≡ get_or now at x → set now at (run_behind n x) ≡ first_behind n (at + 1) rs
behind_more n at rs now x low is read =
    let one : at + 1 ≡ suc at = omega arith in
    let value : x ≡ get_or (first_behind n at rs) at x = read ∙ ap (λ (xs : List CoveredRun). get_or xs at x) is in
    ap (λ (xs : List CoveredRun). set xs at (run_behind n x)) is ∙ ap (λ (y : CoveredRun). set (first_behind n at rs) at (run_behind n y)) value ∙ behind_step n at rs x low ∙ rw one refl

-- runs that are known or not
pub when_behind : (b : Bool) (n : ℕ) (rs xs : List CoveredRun) → xs ≡ runs_behind n rs → when b xs ≡ option_map (runs_behind n) (when b rs)
when_behind true n rs xs is = ap (λ (ys : List CoveredRun). Some ys) is
when_behind false n rs xs is = refl

-- ---- kept from blocks

-- the runs are what the blocks cover, where they are known
abbrev pub AreOfBlocks : Option (List CoveredRun) → List BlockMeaning → Type 0
AreOfBlocks None bs = Unit {0}
AreOfBlocks (Some rs) bs = HoldsBlocks rs bs

pub when_remembered : (b : Bool) (xs : List CoveredRun) (bs : List BlockMeaning) → (b ≡ true → HoldsBlocks xs bs) → AreOfBlocks (when b xs) bs
when_remembered true xs bs h = h refl
when_remembered false xs bs h = tt

pub runs_more : (rs : List CoveredRun) (r : CoveredRun) (i : ℕ) → in_runs (rs ++ r ∷ []) i ≡ (in_runs rs i || in_run r i)
runs_more [] r i = grind (arith, nat_tests)
runs_more (x ∷ rs) r i = rw (runs_more rs r i) (grind (arith, nat_tests))

-- where the last of the runs ends
abbrev pub end_of : (here : ℕ) → List CoveredRun → ℕ
end_of n [] = n
end_of n (r ∷ rs) = end_of r.to rs

pub end_more : (n : ℕ) (rs : List CoveredRun) (r : CoveredRun) → end_of n (rs ++ r ∷ []) ≡ r.to
end_more n [] r = refl
end_more n (x ∷ rs) r = end_more x.to rs r

-- one more begins there or behind
pub order_more : (n : ℕ) (rs : List CoveredRun) (r : CoveredRun) → AreInOrder n rs → end_of n rs ≤ r.from → r.from ≤ r.to → AreInOrder n (rs ++ r ∷ [])
order_more n [] r order begins ends = (begins, ends, tt)
order_more n (x ∷ rs) r order begins ends = (order.0, order.1, order_more x.to rs r order.2 begins ends)

-- one block more is kept
pub remembered_more : (rs : List CoveredRun) (r : CoveredRun) (b : BlockMeaning) (bs : List BlockMeaning) (i : ℕ) → 0 < i → r.from ≡ b.start - 1 → r.to ≡ b.end → (in_runs (rs ++ r ∷ []) i || in_blocks 0 bs i) ≡ (in_runs rs i || in_blocks 0 (b ∷ bs) i)
remembered_more rs r b bs i some from to = rw (runs_more rs r i) (let same : in_run r i ≡ (nat_le (0 + b.start) i && nat_le i (0 + b.end)) = rw (from, to) (block_run b i some) in rw same (grind (arith, nat_tests)))
