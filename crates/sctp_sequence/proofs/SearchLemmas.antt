-- The point of a test in a list in blocks, from the point in the block in which it lies.
use Rattle.std.proofs.Common.{◌≡◌, ℕ, zero, suc, ◌+◌, ◌<◌, ◌≤◌, Bool, true, false, List, [], ◌++◌, ◌∷◌, length, get_or, take, drop, refl, sym, ap, ◌∙◌, subst, append_assoc, length-append, arith}
use Rattle.std.specs.List.{AllByRecursion}
use Rattle.std.specs.List.Sorted.{IsPartitionedBy, IsPartitionPoint}
use Rattle.std.specs.declared.collections.VecDeque.{VecDeque}
use Rattle.std.proofs.lemmas.List.{get_or_append_left}
use Rattle.sctp_sequence.specs.Blocks.{joined, IsBlock}
use Rattle.sctp_sequence.proofs.JoinedLemmas.{joined_at, count_more, count_within}
use Rattle.sctp_sequence.proofs.BlockLemmas.{all-at}
use Rattle.sctp_sequence.proofs.PlaceLemmas.{as_read}
use Rattle.sctp_sequence.proofs.PointLemmas.{Narrowed, parted_front, parted_back, point_amid}

-- a block that was read has an item
pub has_item : {X Z : Type 0} (bs : List (VecDeque X Z)) (k : ℕ) (b : VecDeque X Z) → AllByRecursion IsBlock bs → k < length bs → b ≡ get_or bs k b → 0 < length b.items
has_item bs k b blocks less is =
    let sound = as_read IsBlock bs k b is (λ d. all-at IsBlock bs k d less blocks) in
    omega (arith, sound.some, b.ok)

-- the items up to a block's last are no more than all
pub within_all : {X Z : Type 0} (f : VecDeque X Z) (bs : List (VecDeque X Z)) (k : ℕ) (b : VecDeque X Z) → k < length bs → b ≡ get_or bs k b
    → length f.items + length (joined (take k bs)) + length b.items ≤ length (f.items ++ joined bs)
within_all f bs k b less is = omega (arith, count_more bs k b less is, count_within bs (k + 1), length-append f.items (joined bs))

module _ {X Z : Type 0} (p : X → Bool) where
  -- what stands behind blocks begins as the next block does
  begins_so : (bs : List (VecDeque X Z)) (k : ℕ) → AllByRecursion IsBlock bs → (k < length bs → (b : VecDeque X Z) → b ≡ get_or bs k b → (d : X) → p (get_or b.items 0 d) ≡ false)
      → 0 < length (joined (drop k bs)) → (d : X) → p (get_or (joined (drop k bs)) 0 d) ≡ false
  begins_so [] zero blocks fails some d = absurd (omega arith)
  begins_so [] (suc k) blocks fails some d = absurd (omega arith)
  begins_so (b ∷ bs) zero blocks fails some d =
      let here = blocks.0 in
      ap p (get_or_append_left b.items (joined bs) d 0 (omega (arith, here.some, b.ok))) ∙ fails (omega arith) b refl d
  begins_so (b ∷ bs) (suc k) blocks fails some d = begins_so bs k blocks.1 (λ less. fails (omega arith)) some d

  pub first_point : (f : VecDeque X Z) (bs : List (VecDeque X Z)) (i low high : ℕ) → AllByRecursion IsBlock bs → i ≤ length f.items → low ≡ 0 → high ≤ low → IsPartitionedBy p (f.items ++ joined bs) → Narrowed p bs low high
      → IsPartitionPoint (λ y. p y ≡ true) (λ y. p y ≡ false) f.items i → IsPartitionPoint (λ y. p y ≡ true) (λ y. p y ≡ false) (f.items ++ joined bs) i
  first_point f bs i low high blocks within none narrow parted h point =
      let at : high ≡ 0 = omega arith in
      let next = subst (λ (n : ℕ). n < length bs → (b : VecDeque X Z) → b ≡ get_or bs n b → (d : X) → p (get_or b.items 0 d) ≡ false) at h.fails in
      subst (λ (n : ℕ). IsPartitionPoint (λ y. p y ≡ true) (λ y. p y ≡ false) (f.items ++ joined bs) n) {x = 0 + i} {y = i} (omega arith)
      (point_amid p [] f.items (joined bs) 0 i refl within parted (λ e. absurd (omega arith)) (begins_so bs 0 blocks next) point)

  module _ (f : VecDeque X Z) (bs : List (VecDeque X Z)) (k : ℕ) (b : VecDeque X Z) (less : k < length bs) (is : b ≡ get_or bs k b) where
    whole : f.items ++ joined bs ≡ (f.items ++ joined (take k bs)) ++ (b.items ++ joined (drop (suc k) bs))
    whole = ap (λ (l : List X). f.items ++ l) (joined_at bs k b less is) ∙ sym (append_assoc f.items (joined (take k bs)) (b.items ++ joined (drop (suc k) bs)))

    pub later_parted : IsPartitionedBy p (f.items ++ joined bs) → IsPartitionedBy p b.items
    later_parted h = parted_front p b.items (joined (drop (suc k) bs)) (parted_back p (f.items ++ joined (take k bs)) (b.items ++ joined (drop (suc k) bs)) (subst (IsPartitionedBy p) whole h))

    pub later_point : (n i low high : ℕ) → AllByRecursion IsBlock bs → n ≡ length f.items + length (joined (take k bs)) → i ≤ length b.items → k + 1 ≡ low → low ≡ high → ((d : X) → p (get_or b.items 0 d) ≡ true)
        → IsPartitionedBy p (f.items ++ joined bs) → Narrowed p bs low high
        → IsPartitionPoint (λ y. p y ≡ true) (λ y. p y ≡ false) b.items i → IsPartitionPoint (λ y. p y ≡ true) (λ y. p y ≡ false) (f.items ++ joined bs) (n + i)
    later_point n i low high blocks long within next narrow begins parted h point =
        let at : high ≡ suc k = omega arith in
        let behind = subst (λ (m : ℕ). m < length bs → (c : VecDeque X Z) → c ≡ get_or bs m c → (d : X) → p (get_or c.items 0 d) ≡ false) at h.fails in
        let front = f.items ++ joined (take k bs) in
        let count : length front ≡ n = length-append f.items (joined (take k bs)) ∙ sym long in
        subst (λ (l : List X). IsPartitionPoint (λ y. p y ≡ true) (λ y. p y ≡ false) l (n + i)) (sym whole)
        (point_amid p front b.items (joined (drop (suc k) bs)) n i count within (subst (IsPartitionedBy p) whole parted) (λ _. (has_item bs k b blocks less is, begins)) (begins_so bs (suc k) blocks behind) point)
