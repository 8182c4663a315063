-- What is kept of the indexes stands for them still with one index more.
use Rattle.std.proofs.Common.{◌≡◌, ℕ, suc, ◌+◌, ◌-◌, ◌<◌, ◌≤◌, Bool, true, false, ◌==◌, nat_le, List, inl, inr, refl, sym, ◌∙◌, subst, arith}
use Rattle.std.specs.Prelude.{◌||◌, if◌then◌else◌, Result, Ok, Err, OnOk, OnErr}
use Rattle.std.proofs.lemmas.Bool.{cases_Bool, cases_lt, or_parts, leb-false}
use Rattle.std.proofs.lemmas.Bool.Decides.{nat_tests}
use Rattle.std.proofs.lemmas.Grind.{common_steps}
use Rattle.sctp_model.specs.numbers.Limits.{WINDOW}
use Rattle.sctp_recv.specs.declared.runs.SeenRun.{SeenRun}
use Rattle.sctp_recv.specs.Runs.{in_runs, HaveMore, Gain}
use Rattle.sctp_recv.specs.SeenKept.{seen_of, is_reached, IsKept}
use Rattle.sctp_recv.specs.SeenStands.{Records}

-- ---- one index more in the runs

-- a new index that isn't right above the cumulative one lies apart from it, in no run
pub new_apart : (c i : ℕ) (rs : List SeenRun) → is_reached (seen_of c rs) i ≡ false → (i - c ≡ 1 → ⊥) → (suc c < i) × (in_runs rs i ≡ false)
new_apart c i rs new far =
    let parts = or_parts (nat_le i c) (in_runs rs i) new in
    let above = leb-false i c parts.0 in
    (elim (cases_lt (suc c) i) [ inl past ↦ past | inr upto ↦ absurd (far (omega (arith, above, upto))) ], parts.1)

pub kept_gained : (c i : ℕ) (old new : List SeenRun) → IsKept c old → is_reached (seen_of c old) i ≡ false → (i - c ≡ 1 → ⊥) → i ≤ c + WINDOW → Gain i old new → IsKept c new
kept_gained c i old new k fresh far near gain = record { runs = more.runs; within = within }
  where
    apart : (suc c < i) × (in_runs old i ≡ false)
    apart = new_apart c i old fresh far

    more : HaveMore c i old new
    more = gain c k.runs apart.0 apart.1

    within : (j : ℕ) → in_runs new j ≡ true → j ≤ c + WINDOW
    within j there = elim (cases_Bool (in_runs old j)) [
      | inl before ↦ k.within j before
      | inr other ↦ let both = more.holds j in let same : j ≡ i = grind (arith, both, there, other, nat_tests, common_steps) in omega (arith, same, near)
    ]

pub records_gained : (c i : ℕ) (old new : List SeenRun) → is_reached (seen_of c old) i ≡ false → (i - c ≡ 1 → ⊥) → Gain i old new → Records (seen_of c old) (seen_of c new) i
records_gained c i old new fresh far gain seen jump s = record {
  runs = more.runs;
  below = λ j some low. elim (s.below j some low) [
    | inl came ↦ let other : (j == i) ≡ false = let past = apart.0 in grind (arith, past, low, nat_tests) in inl (rw other came)
    | inr passed ↦ inr passed
  ];
  above = λ j high. let both = more.holds j in let was = s.above j high in recorded (seen j) (j == i) (in_runs old j) was ∙ sym both;
  jumped = s.jumped;
}
  where
    apart : (suc c < i) × (in_runs old i ≡ false)
    apart = new_apart c i old fresh far

    more : HaveMore c i old new
    more = gain c s.runs apart.0 apart.1

    recorded : (came here held : Bool) → came ≡ held → (if here then true else came) ≡ (held || here)
    recorded came true true is = refl
    recorded came true false is = refl
    recorded came false true is = is
    recorded came false false is = is

-- ---- of a result

pub either_way : {A E B : Type 0} (r : Result A E) (P : B → Type 0) (old new : B) → OnOk r (P new) → OnErr r (new ≡ old) → P old → P new
either_way (Ok x) P old new done refused before = done
either_way (Err x) P old new done refused before = subst P (sym refused) before

pub on_ok : {A E : Type 0} (r : Result A E) (P Q : Type 0) → (P → Q) → OnOk r P → OnOk r Q
on_ok (Ok x) P Q f p = f p
on_ok (Err x) P Q f p = p
