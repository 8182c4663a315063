-- Lists that are the same but for their order.
use Rattle.std.proofs.Common.{map, ◌≡◌, ℕ, ◌+◌, ◌⊎◌, Bool, true, false, List, [], ◌∷◌, ◌++◌, filter, inl, inr, refl, sym, ◌∙◌, ap, arith}
use Rattle.std.specs.Prelude.{if◌then◌else◌}
use Rattle.std.proofs.lemmas.Bool.{cases_Bool}
use Rattle.sctp_chains.specs.Same.{total, AreSame}
use Rattle.sctp_chains.proofs.ListLemmas.{in_front, in_back, in_part, has_filter, filter_has}

module _ {A : Type 0} where
  pub same_as : (xs ys : List A) → xs ≡ ys → AreSame xs ys
  same_as xs ys e = rw e (record { there = λ x h. h; back = λ x h. h; weight = λ w. refl })

  pub same_through : (xs ys zs : List A) → AreSame xs ys → AreSame ys zs → AreSame xs zs
  same_through xs ys zs a b = record { there = λ x h. b.there x (a.there x h); back = λ x h. a.back x (b.back x h); weight = λ w. a.weight w ∙ b.weight w }

  pub total_parts : (w : A → ℕ) (xs ys : List A) → total w (xs ++ ys) ≡ total w xs + total w ys
  total_parts w [] ys = omega arith
  total_parts w (x ∷ xs) ys = let more = total_parts w xs ys in omega (arith, more)

  -- one more in front of both
  pub same_more : (x : A) (xs ys : List A) → AreSame xs ys → AreSame (x ∷ xs) (x ∷ ys)
  same_more x xs ys a = record {
    there = λ y h. elim h [ inl is ↦ inl is | inr later ↦ inr (a.there y later) ];
    back = λ y h. elim h [ inl is ↦ inl is | inr later ↦ inr (a.back y later) ];
    weight = λ w. ap (λ (n : ℕ). w x + n) (a.weight w);
  }

  -- a list in the midst of another comes to the front
  pub same_midst : (front mid back : List A) → AreSame (front ++ (mid ++ back)) (mid ++ (front ++ back))
  same_midst front mid back = record {
    there = λ x h. elim (in_part front (mid ++ back) x h) [
      | inl a ↦ in_back mid (front ++ back) x (in_front front back x a)
      | inr b ↦ elim (in_part mid back x b) [ inl m ↦ in_front mid (front ++ back) x m | inr c ↦ in_back mid (front ++ back) x (in_back front back x c) ]
    ];
    back = λ x h. elim (in_part mid (front ++ back) x h) [
      | inl m ↦ in_back front (mid ++ back) x (in_front mid back x m)
      | inr b ↦ elim (in_part front back x b) [ inl a ↦ in_front front (mid ++ back) x a | inr c ↦ in_back front (mid ++ back) x (in_back mid back x c) ]
    ];
    weight = λ w.
        let a = total_parts w front (mid ++ back) in let b = total_parts w mid back in let c = total_parts w mid (front ++ back) in let d = total_parts w front back in
        omega (arith, a, b, c, d);
  }

  -- the same behind a front
  pub same_behind : (front xs ys : List A) → AreSame xs ys → AreSame (front ++ xs) (front ++ ys)
  same_behind [] xs ys a = a
  same_behind (x ∷ front) xs ys a = same_more x (front ++ xs) (front ++ ys) (same_behind front xs ys a)

  pub same_back : (xs ys : List A) → AreSame xs ys → AreSame ys xs
  same_back xs ys a = record { there = a.back; back = a.there; weight = λ w. sym (a.weight w) }

  -- the same before an end
  pub same_before : (xs ys end : List A) → AreSame xs ys → AreSame (xs ++ end) (ys ++ end)
  same_before xs ys end a = record {
    there = λ x h. elim (in_part xs end x h) [ inl b ↦ in_front ys end x (a.there x b) | inr c ↦ in_back ys end x c ];
    back = λ x h. elim (in_part ys end x h) [ inl b ↦ in_front xs end x (a.back x b) | inr c ↦ in_back xs end x c ];
    weight = λ w. let b = total_parts w xs end in let c = total_parts w ys end in let d = a.weight w in omega (arith, b, c, d);
  }

  -- what passes a test weighs what all weigh, if those that fail weigh nothing
  total_filter : (w : A → ℕ) (test : A → Bool) (xs : List A) → total w (filter test xs) ≡ total (λ (x : A). if test x then w x else 0) xs
  total_filter w test [] = refl
  total_filter w test (x ∷ xs) = go (cases_Bool (test x)) (total_filter w test xs)
    where
      go : (test x ≡ true) ⊎ (test x ≡ false) → total w (filter test xs) ≡ total (λ (y : A). if test y then w y else 0) xs →
          total w (filter test (x ∷ xs)) ≡ total (λ (y : A). if test y then w y else 0) (x ∷ xs)
      go (inl e) more = rw e (ap (λ (n : ℕ). w x + n) more)
      go (inr e) more = rw e (omega (arith, more))

  pub same_filter : (test : A → Bool) (xs ys : List A) → AreSame xs ys → AreSame (filter test xs) (filter test ys)
  same_filter test xs ys a = record {
    there = λ x h. let m = has_filter test xs x h in filter_has test ys x (a.there x m.0) m.1;
    back = λ x h. let m = has_filter test ys x h in filter_has test xs x (a.back x m.0) m.1;
    weight = λ w. total_filter w test xs ∙ a.weight (λ (x : A). if test x then w x else 0) ∙ sym (total_filter w test ys);
  }

pub total_map : {A B : Type 0} (g : A → B) (w : B → ℕ) (xs : List A) → total w (map g xs) ≡ total (λ (x : A). w (g x)) xs
total_map g w [] = refl
total_map g w (x ∷ xs) = ap (λ (n : ℕ). w (g x) + n) (total_map g w xs)
