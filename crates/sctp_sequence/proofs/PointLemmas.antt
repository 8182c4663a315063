-- Where a test changes its answer in a list that is three lists: in the middle one, if that begins with an item that passes and the last with one that fails.
use Rattle.std.proofs.Common.{◌≡◌, ℕ, ◌+◌, ◌-◌, ◌<◌, ◌≤◌, Bool, true, false, List, [], ◌++◌, ◌∷◌, length, get_or, refl, sym, ap, inl, inr, ◌∙◌, subst, arith, length-append}
use Rattle.std.specs.Fn.{Mut, Called, AlwaysReturns}
use Rattle.std.specs.List.Sorted.{IsPartitionedBy, IsPartitionPoint}
use Rattle.std.specs.declared.collections.VecDeque.{VecDeque}
use Rattle.std.proofs.lemmas.List.{get_or_append_left, get_or-append_right, get_or-append-add, get_or_default}
use Rattle.std.proofs.lemmas.Bool.{cases_lt}
use Rattle.std.proofs.lemmas.Bool.Decides.{nat_tests}

-- a call's answer, and what is left of the calls
pub next_answer : {F X R : Type 0} (g : Mut F X R) (P : X → R → Type 0) (f : F) (a : X) (r : R) (f' : F) → Called g f a r f' → AlwaysReturns g P f → P a r × AlwaysReturns g P f'
next_answer g P f a r f' c h = ((h.at (a ∷ []) r f' c).0, record { at = λ xs. (h.at (a ∷ xs) r f' c).1 })

module _ {X : Type 0} (p : X → Bool) where
  -- a part of a list that is partitioned
  pub parted_front : (xs ys : List X) → IsPartitionedBy p (xs ++ ys) → IsPartitionedBy p xs
  parted_front xs ys h i j d below within passes =
      let long = length-append xs ys in
      let high = get_or_append_left xs ys d j within in
      let low = get_or_append_left xs ys d i (omega arith) in
      ap p (sym low) ∙ h i j d below (omega (arith, long)) (ap p high ∙ passes)

  pub parted_back : (xs ys : List X) → IsPartitionedBy p (xs ++ ys) → IsPartitionedBy p ys
  parted_back xs ys h i j d below within passes =
      let long = length-append xs ys in
      let high = get_or-append-add xs ys j d in
      let low = get_or-append-add xs ys i d in
      ap p (sym low) ∙ h (length xs + i) (length xs + j) d (omega arith) (omega (arith, long)) (ap p high ∙ passes)

  -- the point of the middle list is one of the whole
  pub point_amid : (front middle back : List X) (n i : ℕ) → length front ≡ n → i ≤ length middle → IsPartitionedBy p (front ++ (middle ++ back))
      → (0 < n → (0 < length middle) × ((d : X) → p (get_or middle 0 d) ≡ true)) → (0 < length back → (d : X) → p (get_or back 0 d) ≡ false)
      → IsPartitionPoint (λ y. p y ≡ true) (λ y. p y ≡ false) middle i → IsPartitionPoint (λ y. p y ≡ true) (λ y. p y ≡ false) (front ++ (middle ++ back)) (n + i)
  point_amid front middle back n i long within parted begins ends point = (low, high)
    where
      all : List X
      all = front ++ (middle ++ back)

      amid : (k : ℕ) (d : X) → k < length middle → get_or all (n + k) d ≡ get_or middle k d
      amid k d less =
          let far : n + k - n ≡ k = omega arith in
          get_or-append_right front (middle ++ back) n (n + k) d long (omega arith) ∙ ap (λ (m : ℕ). get_or (middle ++ back) m d) far ∙ get_or_append_left middle back d k less

      total : length all ≡ n + (length middle + length back)
      total = let a = length-append front (middle ++ back) in let b = length-append middle back in omega (arith, a, b, long)

      low : (k : ℕ) (d : X) → 0 ≤ k → k < n + i → p (get_or all k d) ≡ true
      low k d least less = elim (cases_lt k n) [
        | inl before ↦ (let some = begins (omega arith) in
            parted k (n + 0) d (omega arith) (let t = total in let here = some.0 in omega arith) (ap p (amid 0 d some.0) ∙ some.1 d))
        | inr from ↦ (let is : n + (k - n) ≡ k = omega arith in
            ap (λ (m : ℕ). p (get_or all m d)) (sym is) ∙ ap p (amid (k - n) d (omega arith)) ∙ point.0 (k - n) d (omega arith) (omega arith))
      ]

      behind : (k : ℕ) (d : X) → n + length middle ≤ k → k < length all → p (get_or all k d) ≡ false
      behind k d from less =
          let t = total in
          let some : 0 < length back = omega arith in
          let first : get_or all (n + length middle) d ≡ get_or back 0 d =
          (let far : n + length middle - n ≡ length middle = omega arith in let none : length middle - length middle ≡ 0 = omega arith in
          get_or-append_right front (middle ++ back) n (n + length middle) d long (omega arith) ∙ ap (λ (m : ℕ). get_or (middle ++ back) m d) far
          ∙ get_or-append_right middle back (length middle) (length middle) d refl (omega arith) ∙ ap (λ (m : ℕ). get_or back m d) none) in
          let off : p (get_or all (n + length middle) d) ≡ false = ap p first ∙ ends some d in
          grind (arith, nat_tests, parted (n + length middle) k d from less)

      high : (k : ℕ) (d : X) → n + i ≤ k → k < length all → p (get_or all k d) ≡ false
      high k d from less = elim (cases_lt k (n + length middle)) [
        | inl before ↦ (let is : n + (k - n) ≡ k = omega arith in
            ap (λ (m : ℕ). p (get_or all m d)) (sym is) ∙ ap p (amid (k - n) d (omega arith)) ∙ point.1 (k - n) d (omega arith) (omega arith))
        | inr over ↦ behind k d over less
      ]

  -- in halves over blocks: the one before the lower place begins with an item that passes, and the one at the upper place with one that fails
  pub record Narrowed {Z : Type 0} (bs : List (VecDeque X Z)) (low high : ℕ) : Type 0 where
    pub passes : 0 < low → (b : VecDeque X Z) → b ≡ get_or bs (low - 1) b → (d : X) → p (get_or b.items 0 d) ≡ true
    pub fails : high < length bs → (b : VecDeque X Z) → b ≡ get_or bs high b → (d : X) → p (get_or b.items 0 d) ≡ false

  -- what is so of the item that was read first is so of it however it is read
  first_so : {Z : Type 0} (t : Bool) (bs : List (VecDeque X Z)) (k : ℕ) (b c : VecDeque X Z) (x : X) → k < length bs → b ≡ get_or bs k b → c ≡ get_or bs k c → 0 < length b.items → x ≡ get_or b.items 0 x → p x ≡ t
      → (d : X) → p (get_or c.items 0 d) ≡ t
  first_so t bs k b c x less is other some read so d =
      let same : c ≡ b = other ∙ get_or_default bs k c b less ∙ sym is in
      ap (λ (e : VecDeque X _). p (get_or e.items 0 d)) same ∙ ap p (get_or_default b.items 0 d x some ∙ sym read) ∙ so

  pub it_passes : {Z : Type 0} (bs : List (VecDeque X Z)) (low high k : ℕ) (b : VecDeque X Z) (x : X) → k < length bs → b ≡ get_or bs k b → 0 < length b.items → x ≡ get_or b.items 0 x → p x ≡ true → Narrowed bs low high → Narrowed bs (k + 1) high
  it_passes bs low high k b x less is some read so h = record {
    passes = λ _ c other d. first_so true bs k b c x less is (let one : k + 1 - 1 ≡ k = omega arith in subst (λ (n : ℕ). c ≡ get_or bs n c) one other) some read so d;
    fails = h.fails;
  }

  pub it_fails : {Z : Type 0} (bs : List (VecDeque X Z)) (low high k : ℕ) (b : VecDeque X Z) (x : X) → k < length bs → b ≡ get_or bs k b → 0 < length b.items → x ≡ get_or b.items 0 x → p x ≡ false → Narrowed bs low high → Narrowed bs low k
  it_fails bs low high k b x less is some read so h = record {
    passes = h.passes;
    fails = λ _ c other d. first_so false bs k b c x less is other some read so d;
  }
