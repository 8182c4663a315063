-- An item at a place among blocks: what a change in its block makes of them all.
use Rattle.std.proofs.Common.{◌≡◌, ℕ, suc, ◌+◌, ◌<◌, ◌≤◌, List, [], ◌++◌, ◌∷◌, length, get_or, set, take, drop, refl, sym, ap, ◌∙◌, subst, append_assoc, arith}
use Rattle.std.specs.List.{insert, remove}
use Rattle.std.specs.declared.collections.VecDeque.{VecDeque}
use Rattle.std.proofs.lemmas.List.{take_more_set, take-set, drop-set-lt}
use Rattle.sctp_sequence.specs.Blocks.{joined}
use Rattle.sctp_sequence.proofs.PartLemmas.{insert_amid, remove_amid, get_amid, set_amid}
use Rattle.sctp_sequence.proofs.JoinedLemmas.{joined-append, joined_at, joined_set}

module _ {X Z : Type 0} (bs : List (VecDeque X Z)) (k at offset : ℕ) (b : VecDeque X Z) (less : k < length bs) (is : b ≡ get_or bs k b) (place : at ≡ length (joined (take k bs)) + offset) where
  around : joined bs ≡ joined (take k bs) ++ (b.items ++ joined (drop (suc k) bs))
  around = joined_at bs k b less is

  pub item_there : (d : X) → offset < length b.items → get_or b.items offset d ≡ get_or (joined bs) at d
  item_there d within = sym (get_amid (joined (take k bs)) b.items (joined (drop (suc k) bs)) _ at offset refl place d within) ∙ ap (λ (l : List X). get_or l at d) (sym around)

  -- a change in the block is one of them all
  changed_there : (g h : List X → List X) (c : VecDeque X Z) → c.items ≡ h b.items → g (joined (take k bs) ++ (b.items ++ joined (drop (suc k) bs))) ≡ joined (take k bs) ++ (h b.items ++ joined (drop (suc k) bs))
      → joined (set bs k c) ≡ g (joined bs)
  changed_there g h c new amid = joined_set bs k c less ∙ ap (λ (l : List X). joined (take k bs) ++ (l ++ joined (drop (suc k) bs))) new ∙ sym amid ∙ ap g (sym around)

  pub put_there : (x : X) (c : VecDeque X Z) → offset ≤ length b.items → c.items ≡ insert b.items offset x → joined (set bs k c) ≡ insert (joined bs) at x
  put_there x c within new = changed_there (λ l. insert l at x) (λ l. insert l offset x) c new (insert_amid (joined (take k bs)) b.items (joined (drop (suc k) bs)) _ at offset refl place x within)

  pub halved_there : (x : X) (low high : VecDeque X Z) → offset ≤ length b.items → low.items ++ high.items ≡ insert b.items offset x → joined (insert (set bs k low) (k + 1) high) ≡ insert (joined bs) at x
  halved_there x low high within new =
      let one : suc k ≡ k + 1 = omega arith in
      let front = take k bs in
      let back = drop (suc k) bs in
      let blocks : insert (set bs k low) (k + 1) high ≡ front ++ (low ∷ (high ∷ back)) =
      (λ i. take_more_set bs k low less i ++ (high ∷ drop-set-lt (k + 1) bs k low (omega arith) i)) ∙ append_assoc front (low ∷ []) (high ∷ drop (k + 1) bs)
      ∙ ap (λ (n : ℕ). front ++ (low ∷ (high ∷ drop n bs))) (sym one) in
      ap joined blocks
      ∙ joined-append front (low ∷ (high ∷ back))
      ∙ ap (λ (l : List X). joined front ++ l) (sym (append_assoc low.items high.items (joined back)))
      ∙ ap (λ (l : List X). joined front ++ (l ++ joined back)) new
      ∙ sym (insert_amid (joined front) b.items (joined back) _ at offset refl place x within)
      ∙ ap (λ (l : List X). insert l at x) (sym around)

  pub gone_there : (c : VecDeque X Z) → offset < length b.items → c.items ≡ remove b.items offset → joined (set bs k c) ≡ remove (joined bs) at
  gone_there c within new = changed_there (λ l. remove l at) (λ l. remove l offset) c new (remove_amid (joined (take k bs)) b.items (joined (drop (suc k) bs)) _ at offset refl place within)

  pub emptied_there : (c : VecDeque X Z) → offset < length b.items → c.items ≡ remove b.items offset → c.items ≡ [] → joined (remove (set bs k c) k) ≡ remove (joined bs) at
  emptied_there c within new none =
      let front = take k bs in
      let back = drop (suc k) bs in
      let blocks : remove (set bs k c) k ≡ front ++ back = λ i. take-set bs k c i ++ drop-set-lt (suc k) bs k c (omega arith) i in
      ap joined blocks
      ∙ joined-append front back
      ∙ ap (λ (l : List X). joined front ++ (l ++ joined back)) (sym none)
      ∙ sym (joined_set bs k c less)
      ∙ gone_there c within new

  pub set_there : (x : X) (c : VecDeque X Z) → offset < length b.items → c.items ≡ set b.items offset x → joined (set bs k c) ≡ set (joined bs) at x
  set_there x c within new = changed_there (λ l. set l at x) (λ l. set l offset x) c new (set_amid (joined (take k bs)) b.items (joined (drop (suc k) bs)) _ at offset refl place x within)

-- what is so of a block at a place is so of the one that was read there
pub as_read : {X : Type 0} (P : X → Type 0) (xs : List X) (k : ℕ) (x : X) → x ≡ get_or xs k x → ((d : X) → P (get_or xs k d)) → P x
as_read P xs k x is h = subst P (sym is) (h x)
