-- Lists in which each element is in a relation to all later ones.
use Rattle.std.proofs.Common.{◌≡◌, ◌⊎◌, List, [], ◌∷◌, ◌++◌, inl, inr, refl, sym, ◌∙◌, subst}
use Rattle.sctp_model.specs.numbers.Lists.{Has, AreInOrder}

-- ---- lists in order

pub has_left : {A : Type 0} (xs ys : List A) (x : A) → Has xs x → Has (xs ++ ys) x
has_left [] ys x there = absurd there
has_left (z ∷ zs) ys x (inl is) = inl is
has_left (z ∷ zs) ys x (inr there) = inr (has_left zs ys x there)

pub has_right : {A : Type 0} (xs ys : List A) (x : A) → Has ys x → Has (xs ++ ys) x
has_right [] ys x there = there
has_right (z ∷ zs) ys x there = inr (has_right zs ys x there)

pub has_side : {A : Type 0} (xs ys : List A) (x : A) → Has (xs ++ ys) x → Has xs x ⊎ Has ys x
has_side [] ys x there = inr there
has_side (z ∷ zs) ys x (inl is) = inl (inl is)
has_side (z ∷ zs) ys x (inr there) = elim (has_side zs ys x there) [ inl front ↦ inl (inr front) | inr back ↦ inr back ]

module _ {A : Type 0} (R : A → A → Type 0) where
  pub order_left : (xs ys : List A) → AreInOrder R (xs ++ ys) → AreInOrder R xs
  order_left [] ys order = tt
  order_left (x ∷ xs) ys order = (λ y there. order.0 y (has_left xs ys y there), order_left xs ys order.1)

  pub order_right : (xs ys : List A) → AreInOrder R (xs ++ ys) → AreInOrder R ys
  order_right [] ys order = order
  order_right (x ∷ xs) ys order = order_right xs ys order.1

  pub order_across : (xs ys : List A) → AreInOrder R (xs ++ ys) → (x y : A) → Has xs x → Has ys y → R x y
  order_across [] ys order x y here there = absurd here
  order_across (z ∷ zs) ys order x y (inl is) there = subst (λ (v : A). R v y) is (order.0 y (has_right zs ys y there))
  order_across (z ∷ zs) ys order x y (inr here) there = order_across zs ys order.1 x y here there

  pub order_join : (xs ys : List A) → AreInOrder R xs → AreInOrder R ys → ((x y : A) → Has xs x → Has ys y → R x y) → AreInOrder R (xs ++ ys)
  order_join [] ys front back across = back
  order_join (x ∷ xs) ys front back across = (
    λ y there. elim (has_side xs ys y there) [ inl before ↦ front.0 y before | inr behind ↦ across x y (inl refl) behind ],
    order_join xs ys front.1 back (λ v w here there. across v w (inr here) there),
  )

  -- of two elements the one stands before the other, or they are one
  pub either_order : (xs : List A) → AreInOrder R xs → (x y : A) → Has xs x → Has xs y → (x ≡ y) ⊎ (R x y ⊎ R y x)
  either_order [] order x y here there = absurd here
  either_order (z ∷ zs) order x y (inl is) (inl also) = inl (sym is ∙ also)
  either_order (z ∷ zs) order x y (inl is) (inr there) = inr (inl (subst (λ (v : A). R v y) is (order.0 y there)))
  either_order (z ∷ zs) order x y (inr here) (inl also) = inr (inr (subst (λ (v : A). R v x) also (order.0 x here)))
  either_order (z ∷ zs) order x y (inr here) (inr there) = either_order zs order.1 x y here there
