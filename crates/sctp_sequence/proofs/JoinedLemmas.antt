-- The items of blocks: a block among them, and blocks in its place.
use Rattle.std.proofs.Common.{◌≡◌, ℕ, suc, ◌+◌, ◌<◌, ◌≤◌, List, [], ◌++◌, ◌∷◌, length, get_or, set, take, drop, sym, ap, ◌∙◌, append-nil, arith, length-append}
use Rattle.std.specs.declared.collections.VecDeque.{VecDeque}
use Rattle.sctp_sequence.specs.Blocks.{joined}
use Rattle.std.proofs.lemmas.List.{set_split, take_more, take_all, take-append-drop, drop_more}
use Rattle.std.proofs.lemmas.List.Concat.{flat_map-append}

module _ {X Z : Type 0} where
  pub joined-append : (ds bs : List (VecDeque X Z)) → joined (ds ++ bs) ≡ joined ds ++ joined bs
  joined-append ds bs = flat_map-append (λ (b : VecDeque X Z). b.items) ds bs

  -- a block amid others
  pub joined_at : (bs : List (VecDeque X Z)) (k : ℕ) (b : VecDeque X Z) → k < length bs → b ≡ get_or bs k b → joined bs ≡ joined (take k bs) ++ (b.items ++ joined (drop (suc k) bs))
  joined_at bs k b less is =
      let one : suc k ≡ k + 1 = omega arith in
      let cut : take k bs ++ drop k bs ≡ bs = take-append-drop k bs in
      let here : drop k bs ≡ b ∷ drop (suc k) bs = drop_more bs k b less ∙ (λ i. sym is i ∷ drop (sym one i) bs) in
      ap joined (sym cut) ∙ joined-append (take k bs) (drop k bs) ∙ ap (λ (l : List (VecDeque X Z)). joined (take k bs) ++ joined l) here

  -- another in its place
  pub joined_set : (bs : List (VecDeque X Z)) (k : ℕ) (b : VecDeque X Z) → k < length bs → joined (set bs k b) ≡ joined (take k bs) ++ (b.items ++ joined (drop (suc k) bs))
  joined_set bs k b less = ap joined (set_split bs k b less) ∙ joined-append (take k bs) (b ∷ drop (suc k) bs)

  -- how many items stand in one block more
  pub count_more : (bs : List (VecDeque X Z)) (k : ℕ) (b : VecDeque X Z) → k < length bs → b ≡ get_or bs k b → length (joined (take (k + 1) bs)) ≡ length (joined (take k bs)) + length b.items
  count_more bs k b less is =
      let more : take (k + 1) bs ≡ take k bs ++ b ∷ [] = take_more bs k b less ∙ ap (λ (y : VecDeque X Z). take k bs ++ y ∷ []) (sym is) in
      let lone : length (joined (b ∷ [])) ≡ length b.items = ap length (append-nil b.items) in
      ap (λ (l : List (VecDeque X Z)). length (joined l)) more ∙ ap length (joined-append (take k bs) (b ∷ [])) ∙ length-append (joined (take k bs)) (joined (b ∷ []))
      ∙ ap (λ (n : ℕ). length (joined (take k bs)) + n) lone

  -- no more items stand in the first blocks than in all
  pub count_within : (bs : List (VecDeque X Z)) (k : ℕ) → length (joined (take k bs)) ≤ length (joined bs)
  count_within bs k =
      let all : length (joined bs) ≡ length (joined (take k bs)) + length (joined (drop k bs)) =
      ap (λ (l : List (VecDeque X Z)). length (joined l)) (sym (take-append-drop k bs)) ∙ ap length (joined-append (take k bs) (drop k bs)) ∙ length-append (joined (take k bs)) (joined (drop k bs)) in
      omega (arith, all)

  -- in all blocks stand all
  pub count_all : (bs : List (VecDeque X Z)) (k : ℕ) → length bs ≤ k → joined (take k bs) ≡ joined bs
  count_all bs k over = ap joined (take_all k bs over)
