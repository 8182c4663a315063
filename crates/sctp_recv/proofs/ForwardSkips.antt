-- The numbers that a FORWARD skips: those of a view's lanes are those found for a stream.
use Rattle.std.proofs.Common.{◌≡◌, ℕ, suc, ◌<◌, ◌≤◌, ◌⊎◌, max, nat_lt, Bool, true, false, List, [], ◌∷◌, Option, None, Some, inl, inr, refl, sym, ◌∙◌, ap, arith}
use Rattle.std.specs.Prelude.{if◌then◌else◌}
use Rattle.std.proofs.lemmas.Bool.{cases_Bool}
use Rattle.std.proofs.lemmas.Bool.Decides.{nat_tests}
use Rattle.sctp_model.specs.wire.Chunk.{SkipMeaning}
use Rattle.sctp_model.specs.messages.Format.{Format, Lane, same_lane, at_lane, ordered_lane, unordered_lane}
use Rattle.sctp_model.specs.messages.Forward.{Skip, skipped}
use Rattle.sctp_model.specs.receiver.ReceiverView.{ReceiverView}
use Rattle.sctp_model.specs.receiver.Reading.{lane_of, reference_in, lowest_in, number_in, is_late}
use Rattle.sctp_model.specs.receiver.Top.{top}
use Rattle.sctp_model.specs.receiver.ForwardTaken.{with_skip, skips_read}
use Rattle.sctp_model.proofs.receiver.RowFacts.{lanes_same}
use Rattle.sctp_recv.specs.ReceiverKept.{number_read}
use Rattle.sctp_recv.specs.inner.Forwarding.{one_past, most_skipped, lowest_after}

-- ---- a list of skips

-- one past the largest number listed of a lane, or 0
abbrev pub most_listed : Lane → List Skip → ℕ
most_listed l [] = 0
most_listed l (y ∷ ys) = max (if same_lane l y.lane then suc y.number else 0) (most_listed l ys)

pub skipped_most : (ys : List Skip) (skip : Lane → ℕ) (l : Lane) → skipped skip ys l ≡ max (skip l) (most_listed l ys)
skipped_most [] skip l = omega arith
skipped_most (y ∷ ys) skip l = skipped_most ys (at_lane skip y.lane (max (skip y.lane) (suc y.number))) l ∙ go (cases_Bool (same_lane l y.lane))
  where
    go : (same_lane l y.lane ≡ true) ⊎ (same_lane l y.lane ≡ false) →
        max (at_lane skip y.lane (max (skip y.lane) (suc y.number)) l) (most_listed l ys) ≡ max (skip l) (most_listed l (y ∷ ys))
    go (inl same) = let lane : skip l ≡ skip y.lane = ap skip (lanes_same l y.lane same) in rw same (omega (arith, lane))
    go (inr other) = rw other (omega arith)

-- ---- what is read of a FORWARD

module _ (f : Format) (r : ReceiverView) (l : Lane) (near lowest : ℕ) (is_near : reference_in r l.stream l.kind ≡ near) (is_lowest : lowest_in r l l.kind ≡ lowest) where
  -- an entry of another lane
  other_entry : (k : Lane) (o : Option ℕ) (ys : List Skip) → same_lane l k ≡ false → most_listed l (with_skip r k o ys) ≡ most_listed l ys
  other_entry k None ys other = refl
  other_entry k (Some n) ys other = go (cases_Bool (is_late r k (Some n)))
    where
      go : (is_late r k (Some n) ≡ true) ⊎ (is_late r k (Some n) ≡ false) → most_listed l (with_skip r k (Some n) ys) ≡ most_listed l ys
      go (inl late) = rw late refl
      go (inr counts) = rw (counts, other) (omega arith)

  -- an entry of this lane
  own_entry : (o : Option ℕ) (ys : List Skip) (m : ℕ) → same_lane l l ≡ true → max lowest (most_listed l ys) ≡ max lowest m →
      max lowest (most_listed l (with_skip r l o ys)) ≡ max lowest (max (one_past o) m)
  own_entry None ys m same more = omega (arith, more)
  own_entry (Some n) ys m same more = go (cases_Bool (nat_lt n lowest))
    where
      late_is : (b : Bool) → nat_lt n lowest ≡ b → is_late r l (Some n) ≡ b
      late_is b e = ap (λ (k : ℕ). nat_lt n k) is_lowest ∙ e

      go : (nat_lt n lowest ≡ true) ⊎ (nat_lt n lowest ≡ false) → max lowest (most_listed l (with_skip r l (Some n) ys)) ≡ max lowest (max (suc n) m)
      go (inl low) =
          let late = late_is true low in
          let less : n < lowest = grind (arith, low, nat_tests) in
          rw late (omega (arith, less, more))
      go (inr high) = let counts = late_is false high in rw (counts, same) (omega (arith, more))

  pub most_read : (xs : List SkipMeaning) → max lowest (most_listed l (skips_read f r xs)) ≡ max lowest (most_skipped f l (r.resets.base l) near xs)
  most_read [] = refl
  most_read (x ∷ xs) = go (cases_Bool (same_lane l (lane_of x.stream x.unordered))) (most_read xs)
    where
      k : Lane
      k = lane_of x.stream x.unordered

      go : (same_lane l (lane_of x.stream x.unordered) ≡ true) ⊎ (same_lane l (lane_of x.stream x.unordered) ≡ false) →
          max lowest (most_listed l (skips_read f r xs)) ≡ max lowest (most_skipped f l (r.resets.base l) near xs) →
          max lowest (most_listed l (skips_read f r (x ∷ xs))) ≡ max lowest (most_skipped f l (r.resets.base l) near (x ∷ xs))
      go (inr other) more =
          let rest = other_entry (lane_of x.stream x.unordered) (number_in f r (lane_of x.stream x.unordered) x.number) (skips_read f r xs) other in
          rw other (omega (arith, rest, more))
      go (inl same) more =
          let lane : l ≡ lane_of x.stream x.unordered = lanes_same l (lane_of x.stream x.unordered) same in
          let itself : same_lane l l ≡ true = ap (λ (j : Lane). same_lane l j) lane ∙ same in
          let number : number_in f r l x.number ≡ number_read f l.kind (r.resets.base l) x.number near = ap (λ (n : ℕ). number_read f l.kind (r.resets.base l) x.number n) is_near in
          let own = own_entry (number_in f r l x.number) (skips_read f r xs) (most_skipped f l (r.resets.base l) near xs) itself more in
          let here : max lowest (most_listed l (with_skip r (lane_of x.stream x.unordered) (number_in f r (lane_of x.stream x.unordered) x.number) (skips_read f r xs))) ≡ max lowest (max (one_past (number_in f r l x.number)) (most_skipped f l (r.resets.base l) near xs)) =
          ap (λ (j : Lane). max lowest (most_listed l (with_skip r j (number_in f r j x.number) (skips_read f r xs)))) (sym lane) ∙ own in
          rw same (here ∙ ap (λ (o : Option ℕ). max lowest (max (one_past o) (most_skipped f l (r.resets.base l) near xs))) number)

  -- the larger of the lowest and what is skipped then, where no more was skipped before
  pub lowest_read : (xs : List SkipMeaning) → r.skip l ≤ lowest → max lowest (skipped r.skip (skips_read f r xs) l) ≡ lowest_after f l (r.resets.base l) near lowest xs
  lowest_read xs under =
      let all = skipped_most (skips_read f r xs) r.skip l in
      let read = most_read xs in
      omega (arith, all, read, under)

-- of unordered messages it is what is skipped then
pub unordered_read : (f : Format) (r : ReceiverView) (s : ℕ) (xs : List SkipMeaning) →
    skipped r.skip (skips_read f r xs) (unordered_lane s) ≡ lowest_after f (unordered_lane s) (r.resets.base (unordered_lane s)) (top r s) (r.skip (unordered_lane s)) xs
unordered_read f r s xs =
    let both = lowest_read f r (unordered_lane s) (top r s) (r.skip (unordered_lane s)) refl refl xs (omega arith) in
    let all = skipped_most (skips_read f r xs) r.skip (unordered_lane s) in
    omega (arith, both, all)

-- of ordered ones, the larger of it and the next number
pub ordered_read : (f : Format) (r : ReceiverView) (s : ℕ) (xs : List SkipMeaning) → r.skip (ordered_lane s) ≤ r.next s →
    max (r.next s) (skipped r.skip (skips_read f r xs) (ordered_lane s)) ≡ lowest_after f (ordered_lane s) (r.resets.base (ordered_lane s)) (r.next s) (r.next s) xs
ordered_read f r s xs under = lowest_read f r (ordered_lane s) (r.next s) (r.next s) refl (omega (arith, under)) xs under
