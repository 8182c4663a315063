-- A list that is three lists, and its middle one: what an insert, a removal and a write there make of it.
use Rattle.std.proofs.Common.{◌≡◌, ℕ, ◌+◌, ◌-◌, ◌<◌, ◌≤◌, List, ◌++◌, length, get_or, set, ap, ◌∙◌, arith}
use Rattle.std.specs.List.{insert, remove}
use Rattle.std.proofs.lemmas.List.{get_or_append_left, get_or-append_right, set-append_left, set-append_right}
use Rattle.std.proofs.lemmas.List.Edits.{insert-append_left, insert-append_right, remove-append_left, remove-append_right}

module _ {X : Type 0} (front middle back : List X) (n at offset : ℕ) (long : length front ≡ n) (is : at ≡ n + offset) where
  same_offset : at - n ≡ offset
  same_offset = omega arith

  pub insert_amid : (x : X) → offset ≤ length middle → insert (front ++ (middle ++ back)) at x ≡ front ++ (insert middle offset x ++ back)
  insert_amid x within =
      insert-append_right front (middle ++ back) n at x long (omega arith)
      ∙ ap (λ (i : ℕ). front ++ insert (middle ++ back) i x) same_offset
      ∙ ap (λ (l : List X). front ++ l) (insert-append_left middle back offset x within)

  pub remove_amid : offset < length middle → remove (front ++ (middle ++ back)) at ≡ front ++ (remove middle offset ++ back)
  remove_amid within =
      remove-append_right front (middle ++ back) n at long (omega arith)
      ∙ ap (λ (i : ℕ). front ++ remove (middle ++ back) i) same_offset
      ∙ ap (λ (l : List X). front ++ l) (remove-append_left middle back offset within)

  pub get_amid : (d : X) → offset < length middle → get_or (front ++ (middle ++ back)) at d ≡ get_or middle offset d
  get_amid d within =
      get_or-append_right front (middle ++ back) n at d long (omega arith)
      ∙ ap (λ (i : ℕ). get_or (middle ++ back) i d) same_offset
      ∙ get_or_append_left middle back d offset within

  pub set_amid : (x : X) → offset < length middle → set (front ++ (middle ++ back)) at x ≡ front ++ (set middle offset x ++ back)
  set_amid x within =
      set-append_right front (middle ++ back) n at x long (omega arith)
      ∙ ap (λ (i : ℕ). front ++ set (middle ++ back) i x) same_offset
      ∙ ap (λ (l : List X). front ++ l) (set-append_left middle back offset x within)
