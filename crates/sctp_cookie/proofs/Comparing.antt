-- Two lists compared without an early exit: the differences are collected, and if there are none the lists are one.
use Rattle.std.proofs.Common.{◌≡◌, ℕ, ◌+◌, ◌%◌, ◌<◌, List, length, get_or, bit_or, bit_xor, nat_eq, refl, sym, ◌∙◌, subst, ap, arith, below_more}
use Rattle.std.specs.Str.{bytes_eq}
use Rattle.std.specs.Int.{bit_at}
use Rattle.std.specs.Int.Bits.{xor_self}
use Rattle.std.proofs.lemmas.Bool.{eqb-true, eq-eqb}
use Rattle.std.proofs.lemmas.Bool.Decides.{same_from_decides}
use Rattle.std.proofs.lemmas.List.{ext_get_or}
use Rattle.std.proofs.lemmas.Nat.{le_or_l, le_or_r}
use Rattle.std.proofs.lemmas.Nat.Bits.{bit_at_xor, bit_at-lt, bit_at-zero, same_from_bits}
use Rattle.std.proofs.lemmas.Slice.Eq.{bytes_eq-Decides}

-- two numbers whose xor is 0 are one
same_from_xor : (a b : ℕ) → bit_xor a b ≡ 0 → a ≡ b
same_from_xor a b none =
    same_from_bits a b (λ i.
    let bit : bit_at 0 i ≡ (bit_at a i + bit_at b i) % 2 = subst (λ (n : ℕ). bit_at n i ≡ (bit_at a i + bit_at b i) % 2) none (bit_at_xor a b i) in
    omega (arith, bit, bit_at-zero i, bit_at-lt a i, bit_at-lt b i))

-- a difference added to those before leaves 0 only where there was none, and is none
none_of_or_xor : (d a b : ℕ) → bit_or d (bit_xor a b) ≡ 0 → (d ≡ 0) × (a ≡ b)
none_of_or_xor d a b none =
    (omega (arith, le_or_l d (bit_xor a b)), same_from_xor a b (omega (arith, le_or_r d (bit_xor a b))))

-- there is no difference exactly where the first n bytes of both lists are the same
pub record Compares (left right : List ℕ) (n difference : ℕ) : Type 0 where
  pub same : difference ≡ 0 → (k : ℕ) → k < n → get_or left k 0 ≡ get_or right k 0
  pub none : ((k : ℕ) → k < n → get_or left k 0 ≡ get_or right k 0) → difference ≡ 0

-- one byte more of each is compared
pub compared_more : (left right : List ℕ) (n m d a b : ℕ) → m ≡ n + 1 → a ≡ get_or left n 0 → b ≡ get_or right n 0
    → Compares left right n d → Compares left right m (bit_or d (bit_xor a b))
compared_more left right n m d a b more is_a is_b before = record {
  same = λ none k below.
      let parts = none_of_or_xor d a b none in
      below_more (λ (j : ℕ). get_or left j 0 ≡ get_or right j 0) n (before.same parts.0) (sym is_a ∙ parts.1 ∙ is_b) k (omega arith);
  none = λ all.
      let d_none : d ≡ 0 = before.none (λ k below. all k (omega arith)) in
      let same : a ≡ b = is_a ∙ all n (omega arith) ∙ sym is_b in
      rw (d_none, same, xor_self b) refl;
}

-- all bytes of both are compared
pub compared_all : (left right : List ℕ) (n d : ℕ) → length left ≡ length right → n ≡ length left → Compares left right n d
    → nat_eq d 0 ≡ bytes_eq left right
compared_all left right n d sizes whole compares =
    same_from_decides _ _ (
      λ tested. ext_get_or 0 left right sizes (λ k below. compares.same (eqb-true d 0 tested) k (omega arith)),
      λ same. eq-eqb d 0 (compares.none (λ k below. ap (λ (xs : List ℕ). get_or xs k 0) same)),
    )
    (bytes_eq-Decides left right)
