-- How far the FORWARD of a view goes: to the last index, from CUM to the point, for which its chunk fits a packet.
use Rattle.std.proofs.Common.{◌≡◌, ℕ, zero, suc, ◌+◌, ◌-◌, ◌<◌, ◌≤◌, Bool, true, false, inl, inr, refl, sym, ap, ◌∙◌, subst, arith}
use Rattle.std.specs.Prelude.{if◌then◌else◌}
use Rattle.std.proofs.lemmas.Bool.{cases_lt}
use Rattle.sctp_model.specs.messages.Format.{Format}
use Rattle.sctp_model.specs.sender.SenderView.{SenderView}
use Rattle.sctp_model.specs.sender.Readers.{point}
use Rattle.sctp_model.specs.sender.SentChunks.{fits_forward, last_that, forward_end}
use Rattle.sctp_model.proofs.sender.PointLaws.{point_is_point}

-- ---- the last number that passes

-- k is the largest number up to n that passes, or 0, and none passes
pub record IsLast (passes : ℕ → Bool) (n k : ℕ) : Type 0 where
  pub upto : k ≤ n
  pub here : 0 < k → passes k ≡ true
  pub behind : (j : ℕ) → k < j → j ≤ n → passes j ≡ false

pub last_is_last : (passes : ℕ → Bool) (n : ℕ) → IsLast passes n (last_that passes n)
last_is_last passes zero = record { upto = omega arith; here = λ lt. absurd (omega arith); behind = λ j lo hi. absurd (omega (arith, lo, hi)) }
last_is_last passes (suc n) = by_test (passes (suc n)) refl (last_is_last passes n)
  where
    by_test : (b : Bool) → passes (suc n) ≡ b → IsLast passes n (last_that passes n) → IsLast passes (suc n) (if b then suc n else last_that passes n)
    by_test true on below = record { upto = omega arith; here = λ lt. on; behind = λ j lo hi. absurd (omega (arith, lo, hi)) }
    by_test false off below = record {
      upto = let le = below.upto in omega arith;
      here = below.here;
      behind = λ j lo hi.
          elim (cases_lt j (suc n)) [
            | inl lt ↦ below.behind j lo (omega (arith, lt))
            | inr ge ↦ let same : j ≡ suc n = omega (arith, ge, hi) in ap passes same ∙ off
          ];
    }

-- there is one
pub one_last : (passes : ℕ → Bool) (n j k : ℕ) → IsLast passes n j → IsLast passes n k → j ≡ k
one_last passes n j k a b =
    elim (cases_lt j k) [
      | inl lt ↦ absurd (let off = a.behind k lt b.upto in let on = b.here (omega (arith, lt)) in cc)
      | inr ge ↦
          elim (cases_lt k j) [
            | inl lt ↦ absurd (let off = b.behind j lt a.upto in let on = a.here (omega (arith, lt)) in cc)
            | inr le ↦ omega (arith, ge, le)
          ]
    ]

-- ---- the end of a FORWARD

-- what the end is, counted from CUM
pub end_is_last : (f : Format) (limit : ℕ) (v : SenderView) → IsLast (λ n. fits_forward f limit v (v.cum + n)) (point v - v.cum) (forward_end f limit v - v.cum)
end_is_last f limit v =
    let same : last_that (λ n. fits_forward f limit v (v.cum + n)) (point v - v.cum) ≡ forward_end f limit v - v.cum = omega arith in
    subst (λ (k : ℕ). IsLast (λ n. fits_forward f limit v (v.cum + n)) (point v - v.cum) k) same (last_is_last (λ n. fits_forward f limit v (v.cum + n)) (point v - v.cum))

-- the same index, counted from CUM
back : (f : Format) (limit : ℕ) (v : SenderView) (p : ℕ) → v.cum ≤ p → fits_forward f limit v (v.cum + (p - v.cum)) ≡ fits_forward f limit v p
back f limit v p from = let same : v.cum + (p - v.cum) ≡ p = omega (arith, from) in ap (fits_forward f limit v) same

pub end_from : (f : Format) (limit : ℕ) (v : SenderView) → v.cum ≤ forward_end f limit v
end_from f limit v = omega arith

pub end_upto : (f : Format) (limit : ℕ) (v : SenderView) → forward_end f limit v ≤ point v
end_upto f limit v =
    let from = (point_is_point v).from in
    let upto = (last_is_last (λ n. fits_forward f limit v (v.cum + n)) (point v - v.cum)).upto in
    omega (arith, from, upto)

pub end_fits : (f : Format) (limit : ℕ) (v : SenderView) → v.cum < forward_end f limit v → fits_forward f limit v (forward_end f limit v) ≡ true
end_fits f limit v past =
    let last = end_is_last f limit v in
    sym (back f limit v (forward_end f limit v) (end_from f limit v)) ∙ last.here (omega (arith, past))

pub end_behind : (f : Format) (limit : ℕ) (v : SenderView) (p : ℕ) → forward_end f limit v < p → p ≤ point v → fits_forward f limit v p ≡ false
end_behind f limit v p past upto =
    let last = end_is_last f limit v in
    let from = end_from f limit v in
    sym (back f limit v p (omega (arith, past, from))) ∙ last.behind (p - v.cum) (omega (arith, past, from)) (omega (arith, upto))

-- What lies so, and after which none fits, is the end.
pub is_end : (f : Format) (limit : ℕ) (v : SenderView) (p : ℕ) → v.cum ≤ p → p ≤ point v → (v.cum < p → fits_forward f limit v p ≡ true) →
    ((q : ℕ) → p < q → q ≤ point v → fits_forward f limit v q ≡ false) → p ≡ forward_end f limit v
is_end f limit v p from upto fits behind =
    let low = end_from f limit v in
    let high = end_upto f limit v in
    let mine : IsLast (λ n. fits_forward f limit v (v.cum + n)) (point v - v.cum) (p - v.cum) = record {
      upto = omega (arith, upto);
      here = λ lt. back f limit v p from ∙ fits (omega (arith, lt));
      behind = λ j lo hi. behind (v.cum + j) (omega (arith, lo, from)) (omega (arith, hi, lo));
    } in
    let same = one_last (λ n. fits_forward f limit v (v.cum + n)) (point v - v.cum) (p - v.cum) (forward_end f limit v - v.cum) mine (end_is_last f limit v) in
    omega (arith, same, from, low)
