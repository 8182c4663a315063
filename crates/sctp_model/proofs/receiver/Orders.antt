-- A set has one list in a given order.
use Rattle.std.proofs.Common.{◌≡◌, ◌⊎◌, List, [], ◌∷◌, refl, sym, subst, inl, inr}
use Rattle.sctp_model.specs.numbers.Lists.{Has, IsWithin, AreInOrder}

module _ {A : Type 0} (R : A → A → Type 0) where
  -- no two elements of the list lie before each other, nor one before itself
  abbrev pub IsStrict : List A → Type 0
  IsStrict ys = (x y : A) → Has ys x → Has ys y → R x y → R y x → ⊥

  -- of two lists with the same elements the first ones are one
  first_is : (x y : A) (xs ys : List A) → IsStrict (y ∷ ys) → AreInOrder R (x ∷ xs) → AreInOrder R (y ∷ ys) → Has (y ∷ ys) x → Has (x ∷ xs) y → x ≡ y
  first_is x y xs ys strict up rise (inl same) there = sym same
  first_is x y xs ys strict up rise (inr here) (inl same) = same
  first_is x y xs ys strict up rise (inr here) (inr there) = absurd (strict x y (inr here) (inl refl) (up.0 y there) (rise.0 x here))

  -- and what is after the one is after the other
  rest_within : (x y : A) (xs ys : List A) → x ≡ y → IsStrict (y ∷ ys) → AreInOrder R (x ∷ xs) → IsWithin (x ∷ xs) (y ∷ ys) → IsWithin xs ys
  rest_within x y xs ys same strict up within z there = behind (within z (inr there))
    where
      behind : (y ≡ z) ⊎ Has ys z → Has ys z
      behind (inr later) = later
      behind (inl is) =
          let itself : R y z = subst (λ (v : A). R v z) same (up.0 z there) in
          let twice : R z z = subst (λ (v : A). R v z) is itself in
          let here : Has (y ∷ ys) z = inl is in
          absurd (strict z z here here twice twice)

  pub one_order : (xs ys : List A) → IsStrict xs → IsStrict ys → AreInOrder R xs → AreInOrder R ys → IsWithin xs ys → IsWithin ys xs → xs ≡ ys
  one_order [] [] p q up rise to from = refl
  one_order [] (y ∷ ys) p q up rise to from = absurd (from y (inl refl))
  one_order (x ∷ xs) [] p q up rise to from = absurd (to x (inl refl))
  one_order (x ∷ xs) (y ∷ ys) p q up rise to from =
      let first = first_is x y xs ys q up rise (to x (inl refl)) (from y (inl refl)) in
      let rest = one_order xs ys (λ v w h k. p v w (inr h) (inr k)) (λ v w h k. q v w (inr h) (inr k)) up.1 rise.1
      (rest_within x y xs ys first q up to) (rest_within y x ys xs (sym first) p rise from) in
      λ i. first i ∷ rest i
