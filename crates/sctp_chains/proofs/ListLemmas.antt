-- Elements of lists, before and after a position, and lists in order.
use Rattle.std.proofs.Common.{append_assoc, ◌≡◌, ℕ, zero, suc, ◌<◌, ◌≤◌, ◌⊎◌, Bool, true, false, List, [], ◌∷◌, ◌++◌, length, get_or, set, take, drop, map, filter, inl, inr, refl, sym, ◌∙◌, ap, subst, arith}
use Rattle.std.specs.List.{remove}
use Rattle.std.specs.List.Sorted.{IsPartitionPoint, IsPartitionedBy}
use Rattle.std.proofs.lemmas.Bool.{cases_Bool}
use Rattle.sctp_model.specs.numbers.Lists.{Has, AreInOrder, joined}

module _ {A : Type 0} where
  -- ---- elements of a list in parts

  pub in_front : (xs ys : List A) (x : A) → Has xs x → Has (xs ++ ys) x
  in_front [] ys x there = absurd there
  in_front (z ∷ zs) ys x (inl is) = inl is
  in_front (z ∷ zs) ys x (inr there) = inr (in_front zs ys x there)

  pub in_back : (xs ys : List A) (x : A) → Has ys x → Has (xs ++ ys) x
  in_back [] ys x there = there
  in_back (z ∷ zs) ys x there = inr (in_back zs ys x there)

  pub in_part : (xs ys : List A) (x : A) → Has (xs ++ ys) x → Has xs x ⊎ Has ys x
  in_part [] ys x there = inr there
  in_part (z ∷ zs) ys x (inl is) = inl (inl is)
  in_part (z ∷ zs) ys x (inr there) = elim (in_part zs ys x there) [ inl front ↦ inl (inr front) | inr back ↦ inr back ]

  -- one element more in the midst
  pub in_around : (xs ys : List A) (m x : A) → Has (xs ++ ys) x → Has (xs ++ m ∷ ys) x
  in_around xs ys m x there = elim (in_part xs ys x there) [ inl front ↦ in_front xs (m ∷ ys) x front | inr back ↦ in_back xs (m ∷ ys) x (inr back) ]

  pub in_midst : (xs ys : List A) (m : A) → Has (xs ++ m ∷ ys) m
  in_midst xs ys m = in_back xs (m ∷ ys) m (inl refl)

  -- ---- places

  pub halves : (xs : List A) (k : ℕ) → take k xs ++ drop k xs ≡ xs
  halves xs zero = refl
  halves [] (suc k) = refl
  halves (x ∷ xs) (suc k) = ap (λ zs. x ∷ zs) (halves xs k)

  pub here_first : (xs : List A) (k : ℕ) (x : A) → k < length xs → x ≡ get_or xs k x → drop k xs ≡ x ∷ drop (suc k) xs
  here_first [] k x l e = absurd (omega arith)
  here_first (y ∷ xs) zero x l e = ap (λ (z : A). z ∷ xs) (sym e)
  here_first (y ∷ xs) (suc k) x l e = here_first xs k x (omega arith) e

  -- what lies before a place, the element there, and what lies behind it
  pub around : (xs : List A) (k : ℕ) (x : A) → k < length xs → x ≡ get_or xs k x → take k xs ++ x ∷ drop (suc k) xs ≡ xs
  around xs k x l e = ap (λ (ys : List A). take k xs ++ ys) (sym (here_first xs k x l e)) ∙ halves xs k

  pub taken_has : (xs : List A) (k : ℕ) (x : A) → Has (take k xs) x → Has xs x
  taken_has xs k x there = subst (λ (ys : List A). Has ys x) (halves xs k) (in_front (take k xs) (drop k xs) x there)

  pub dropped_has : (xs : List A) (k : ℕ) (x : A) → Has (drop k xs) x → Has xs x
  dropped_has xs k x there = subst (λ (ys : List A). Has ys x) (halves xs k) (in_back (take k xs) (drop k xs) x there)

  -- nothing stands behind the end
  pub none_dropped : (xs : List A) (k : ℕ) (x : A) → length xs ≤ k → Has (drop k xs) x → ⊥
  none_dropped [] zero x le there = there
  none_dropped [] (suc k) x le there = there
  none_dropped (y ∷ xs) zero x le there = omega (arith, le)
  none_dropped (y ∷ xs) (suc k) x le there = none_dropped xs k x (omega (arith, le)) there

  pub has_at : (xs : List A) (k : ℕ) (d : A) → k < length xs → Has xs (get_or xs k d)
  has_at [] k d l = absurd (omega arith)
  has_at (x ∷ xs) zero d l = inl refl
  has_at (x ∷ xs) (suc k) d l = inr (has_at xs k d (omega arith))

  pub at_same : (xs : List A) (k : ℕ) (d e : A) → k < length xs → get_or xs k d ≡ get_or xs k e
  at_same [] k d e l = absurd (omega arith)
  at_same (x ∷ xs) zero d e l = refl
  at_same (x ∷ xs) (suc k) d e l = at_same xs k d e (omega arith)

  -- the last of those before a place
  pub take_one : (xs : List A) (k : ℕ) (x : A) → k < length xs → x ≡ get_or xs k x → take (suc k) xs ≡ take k xs ++ x ∷ []
  take_one [] k x l e = absurd (omega arith)
  take_one (y ∷ xs) zero x l e = ap (λ (z : A). z ∷ []) (sym e)
  take_one (y ∷ xs) (suc k) x l e = ap (λ (zs : List A). y ∷ zs) (take_one xs k x (omega arith) e)

  -- an element that takes another's place, and a later one taken out
  pub set_removed : (xs : List A) (k : ℕ) (m : A) → suc k < length xs → remove (set xs k m) (suc k) ≡ take k xs ++ m ∷ drop (suc (suc k)) xs
  set_removed [] k m l = absurd (omega arith)
  set_removed (x ∷ xs) zero m l = refl
  set_removed (x ∷ xs) (suc k) m l = ap (λ (ys : List A). x ∷ ys) (set_removed xs k m (omega arith))

  -- what lies before a place, and behind it, when the element there is taken out
  pub take_removed : (xs : List A) (k : ℕ) → k < length xs → take k (remove xs k) ≡ take k xs
  take_removed [] k l = absurd (omega (arith, l))
  take_removed (x ∷ xs) zero l = refl
  take_removed (x ∷ xs) (suc k) l = ap (λ (ys : List A). x ∷ ys) (take_removed xs k (omega (arith, l)))

  pub drop_removed : (xs : List A) (k : ℕ) → k < length xs → drop k (remove xs k) ≡ drop (suc k) xs
  drop_removed [] k l = absurd (omega (arith, l))
  drop_removed (x ∷ xs) zero l = refl
  drop_removed (x ∷ xs) (suc k) l = drop_removed xs k (omega (arith, l))

  -- ---- lists in order

  module _ (R : A → A → Type 0) where
    pub order_front : (xs ys : List A) → AreInOrder R (xs ++ ys) → AreInOrder R xs
    order_front [] ys order = tt
    order_front (x ∷ xs) ys order = (λ y there. order.0 y (in_front xs ys y there), order_front xs ys order.1)

    pub order_back : (xs ys : List A) → AreInOrder R (xs ++ ys) → AreInOrder R ys
    order_back [] ys order = order
    order_back (x ∷ xs) ys order = order_back xs ys order.1

    pub order_across : (xs ys : List A) → AreInOrder R (xs ++ ys) → (x y : A) → Has xs x → Has ys y → R x y
    order_across [] ys order x y here there = absurd here
    order_across (z ∷ zs) ys order x y (inl is) there = subst (λ (v : A). R v y) is (order.0 y (in_back zs ys y there))
    order_across (z ∷ zs) ys order x y (inr here) there = order_across zs ys order.1 x y here there

    pub order_join : (xs ys : List A) → AreInOrder R xs → AreInOrder R ys → ((x y : A) → Has xs x → Has ys y → R x y) → AreInOrder R (xs ++ ys)
    order_join [] ys front back across = back
    order_join (x ∷ xs) ys front back across = (
      λ y there. elim (in_part xs ys y there) [ inl before ↦ front.0 y before | inr behind ↦ across x y (inl refl) behind ],
      order_join xs ys front.1 back (λ v w here there. across v w (inr here) there),
    )

    -- of two elements the one stands before the other, or they are one
    pub either_order : (xs : List A) → AreInOrder R xs → (x y : A) → Has xs x → Has xs y → (x ≡ y) ⊎ (R x y ⊎ R y x)
    either_order [] order x y here there = absurd here
    either_order (z ∷ zs) order x y (inl is) (inl also) = inl (sym is ∙ also)
    either_order (z ∷ zs) order x y (inl is) (inr there) = inr (inl (subst (λ (v : A). R v y) is (order.0 y there)))
    either_order (z ∷ zs) order x y (inr here) (inl also) = inr (inr (subst (λ (v : A). R v x) also (order.0 x here)))
    either_order (z ∷ zs) order x y (inr here) (inr there) = either_order zs order.1 x y here there

    -- a test that passes on to earlier elements has a place
    pub parted : (test : A → Bool) → ((low high : A) → R low high → test high ≡ true → test low ≡ true) → (xs : List A) → AreInOrder R xs → IsPartitionedBy test xs
    parted test down [] order j k d le l e = absurd (omega arith)
    parted test down (x ∷ xs) order zero zero d le l e = e
    parted test down (x ∷ xs) order zero (suc k) d le l e = down x (get_or xs k d) (order.0 (get_or xs k d) (has_at xs k d (omega arith))) e
    parted test down (x ∷ xs) order (suc j) zero d le l e = absurd (omega arith)
    parted test down (x ∷ xs) order (suc j) (suc k) d le l e = parted test down xs order.1 j k d (omega arith) (omega arith) e

  -- before the place each passes the test, and behind it none does
  pub placed : (test : A → Bool) (xs : List A) (k : ℕ) → k ≤ length xs → IsPartitionPoint (λ (x : A). test x ≡ true) (λ (x : A). test x ≡ false) xs k →
      ((x : A) → Has (take k xs) x → test x ≡ true) × ((x : A) → Has (drop k xs) x → test x ≡ false)
  placed test [] zero le point = (λ x there. absurd there, λ x there. absurd there)
  placed test [] (suc k) le point = absurd (omega arith)
  placed test (y ∷ xs) zero le point = (
    λ x there. absurd there,
    λ x there. elim there [
      | inl is ↦ subst (λ (z : A). test z ≡ false) is (point.1 0 y (omega arith) (omega arith))
      | inr later ↦ (placed test xs zero (omega arith) (λ j d low high. absurd (omega arith), λ j d low high. point.1 (suc j) d (omega arith) (omega arith))).1 x later
    ],
  )
  placed test (y ∷ xs) (suc k) le point =
      let rest = placed test xs k (omega arith) (λ j d low high. point.0 (suc j) d (omega arith) (omega arith), λ j d low high. point.1 (suc j) d (omega arith) (omega arith)) in (
        λ x there. elim there [ inl is ↦ subst (λ (z : A). test z ≡ true) is (point.0 0 y (omega arith) (omega arith)) | inr later ↦ rest.0 x later ],
        rest.1,
      )

  -- ---- filters

  pub filter_parts : (test : A → Bool) (xs ys : List A) → filter test (xs ++ ys) ≡ filter test xs ++ filter test ys
  filter_parts test [] ys = refl
  filter_parts test (x ∷ xs) ys = go (cases_Bool (test x)) (filter_parts test xs ys)
    where
      go : (test x ≡ true) ⊎ (test x ≡ false) → filter test (xs ++ ys) ≡ filter test xs ++ filter test ys → filter test (x ∷ (xs ++ ys)) ≡ filter test (x ∷ xs) ++ filter test ys
      go (inl e) more = rw e (ap (λ (zs : List A). x ∷ zs) more)
      go (inr e) more = rw e more

  pub filter_all : (test : A → Bool) (xs : List A) → ((x : A) → Has xs x → test x ≡ true) → filter test xs ≡ xs
  filter_all test [] each = refl
  filter_all test (x ∷ xs) each = let here = each x (inl refl) in rw here (ap (λ (zs : List A). x ∷ zs) (filter_all test xs (λ y there. each y (inr there))))

  pub filter_none : (test : A → Bool) (xs : List A) → ((x : A) → Has xs x → test x ≡ false) → filter test xs ≡ []
  filter_none test [] each = refl
  filter_none test (x ∷ xs) each = let here = each x (inl refl) in rw here (filter_none test xs (λ y there. each y (inr there)))

  -- what passes two tests, of which one lets through less
  pub filter_twice : (test first : A → Bool) → ((x : A) → test x ≡ true → first x ≡ true) → (xs : List A) → filter test (filter first xs) ≡ filter test xs
  filter_twice test first less [] = refl
  filter_twice test first less (x ∷ xs) = go (cases_Bool (test x)) (cases_Bool (first x)) (filter_twice test first less xs)
    where
      go : (test x ≡ true) ⊎ (test x ≡ false) → (first x ≡ true) ⊎ (first x ≡ false) → filter test (filter first xs) ≡ filter test xs → filter test (filter first (x ∷ xs)) ≡ filter test (x ∷ xs)
      go (inl e) (inl h) more = rw (h, e) (ap (λ (zs : List A). x ∷ zs) more)
      go (inl e) (inr h) more = absurd (let yes = less x e in cc)
      go (inr e) (inl h) more = rw (h, e) more
      go (inr e) (inr h) more = rw (h, e) more

  -- two tests that agree on a list
  pub filter_same : (test other : A → Bool) (xs : List A) → ((x : A) → Has xs x → test x ≡ other x) → filter test xs ≡ filter other xs
  filter_same test other [] same = refl
  filter_same test other (x ∷ xs) same = go (cases_Bool (other x)) (same x (inl refl)) (filter_same test other xs (λ y there. same y (inr there)))
    where
      go : (other x ≡ true) ⊎ (other x ≡ false) → test x ≡ other x → filter test xs ≡ filter other xs → filter test (x ∷ xs) ≡ filter other (x ∷ xs)
      go (inl e) is more = let own = is ∙ e in rw (e, own) (ap (λ (zs : List A). x ∷ zs) more)
      go (inr e) is more = let own = is ∙ e in rw (e, own) more

  pub has_filter : (test : A → Bool) (xs : List A) (x : A) → Has (filter test xs) x → Has xs x × (test x ≡ true)
  has_filter test [] x there = absurd there
  has_filter test (y ∷ xs) x there = go (cases_Bool (test y)) there (has_filter test xs x)
    where
      go : (test y ≡ true) ⊎ (test y ≡ false) → Has (filter test (y ∷ xs)) x → (Has (filter test xs) x → Has xs x × (test x ≡ true)) → Has (y ∷ xs) x × (test x ≡ true)
      go (inl e) h more = elim (rw e at h) [ inl is ↦ (inl is, subst (λ (z : A). test z ≡ true) is e) | inr later ↦ (inr (more later).0, (more later).1) ]
      go (inr e) h more = let m = more (rw e at h) in (inr m.0, m.1)

  pub filter_has : (test : A → Bool) (xs : List A) (x : A) → Has xs x → test x ≡ true → Has (filter test xs) x
  filter_has test [] x there e = absurd there
  filter_has test (y ∷ xs) x (inl is) e = let own = subst (λ (z : A). test z ≡ true) (sym is) e in rw own (inl is)
  filter_has test (y ∷ xs) x (inr there) e = go (cases_Bool (test y)) (filter_has test xs x there e)
    where
      go : (test y ≡ true) ⊎ (test y ≡ false) → Has (filter test xs) x → Has (filter test (y ∷ xs)) x
      go (inl h) more = rw h (inr more)
      go (inr h) more = rw h more

-- ---- lists made of lists

pub joined_parts : {A : Type 0} (xss yss : List (List A)) → joined (xss ++ yss) ≡ joined xss ++ joined yss
joined_parts [] yss = refl
joined_parts (xs ∷ xss) yss = ap (λ (zs : List _). xs ++ zs) (joined_parts xss yss) ∙ sym (append_assoc xs (joined xss) (joined yss))

pub has_map : {A B : Type 0} (g : A → B) (xs : List A) (x : A) → Has xs x → Has (map g xs) (g x)
has_map g [] x there = absurd there
has_map g (y ∷ xs) x (inl is) = inl (ap g is)
has_map g (y ∷ xs) x (inr there) = inr (has_map g xs x there)

pub map_has : {A B : Type 0} (g : A → B) (xs : List A) (y : B) → Has (map g xs) y → (x : A) × Has xs x × (g x ≡ y)
map_has g [] y there = absurd there
map_has g (x ∷ xs) y (inl is) = (x, inl refl, is)
map_has g (x ∷ xs) y (inr there) = let m = map_has g xs y there in (m.0, inr m.1, m.2)

pub filter_map : {A B : Type 0} (g : A → B) (test : B → Bool) (xs : List A) → filter test (map g xs) ≡ map g (filter (λ (x : A). test (g x)) xs)
filter_map g test [] = refl
filter_map g test (x ∷ xs) = go (cases_Bool (test (g x))) (filter_map g test xs)
  where
    go : (test (g x) ≡ true) ⊎ (test (g x) ≡ false) → filter test (map g xs) ≡ map g (filter (λ y. test (g y)) xs) → filter test (map g (x ∷ xs)) ≡ map g (filter (λ y. test (g y)) (x ∷ xs))
    go (inl e) more = rw e (ap (λ zs. g x ∷ zs) more)
    go (inr e) more = rw e more
