-- Filters over numbers that count up, and lists of which an element is changed.
use Rattle.std.proofs.Common.{◌≡◌, ℕ, zero, suc, ◌+◌, ◌<◌, ◌≤◌, List, [], ◌∷◌, ◌++◌, length, take, drop, filter, get_or, set, Bool, true, false, refl, sym, ap, ◌∙◌, arith, drop-cons, add-one}
use Rattle.std.specs.Prelude.{◌==◌, ◌&&◌, nat_lt, if◌then◌else◌, slice_get, option_map}
use Rattle.std.specs.List.{list_any, AllByRecursion}
use Rattle.std.proofs.lemmas.Bool.Decides.{nat_tests}
use Rattle.std.proofs.lemmas.List.{drop_all}
use Rattle.std.proofs.lemmas.List.Elements.{filter_more}
use Rattle.sctp_model.specs.sender.Words.{count_up}
use Rattle.sctp_model.specs.sender.Outgoing.{lists}
use Rattle.sctp_send.specs.PartsKept.{changed_at}
use Rattle.sctp_send.specs.inner.Resetting.{all_changed}
use Rattle.sctp_send.specs.declared.kept.resets.StreamReset.{StreamReset}
use Rattle.sctp_send.proofs.kept.ChangedLemmas.{count_changed}

-- ---- filters

-- one test of two, one behind the other
pub filter_two : (p q r : ℕ → Bool) (i n : ℕ) → ((s : ℕ) → i ≤ s → s < i + n → r s ≡ (p s && q s)) → filter r (count_up i n) ≡ filter q (filter p (count_up i n))
filter_two p q r i zero same = refl
filter_two p q r i (suc n) same = grind (arith, filter_two p q r (suc i) n (λ s lo hi. same s (omega (arith, lo)) (omega (arith, hi))), same i)

-- tests that agree
pub filter_alike : (p q : ℕ → Bool) (i n : ℕ) → ((s : ℕ) → i ≤ s → s < i + n → p s ≡ q s) → filter p (count_up i n) ≡ filter q (count_up i n)
filter_alike p q i zero same = refl
filter_alike p q i (suc n) same = grind (arith, filter_alike p q (suc i) n (λ s lo hi. same s (omega (arith, lo)) (omega (arith, hi))), same i)

-- a test that none passes
pub filter_off : (p : ℕ → Bool) (i n : ℕ) → ((s : ℕ) → i ≤ s → s < i + n → p s ≡ false) → filter p (count_up i n) ≡ []
filter_off p i zero off = refl
filter_off p i (suc n) off = let here = off i (omega arith) (omega arith) in rw here (filter_off p (suc i) n (λ s lo hi. off s (omega (arith, lo)) (omega (arith, hi))))

-- they are below where the counting ends
pub filter_below : (p : ℕ → Bool) (i n m : ℕ) → i + n ≤ m → AllByRecursion (λ (s : ℕ). s < m) (filter p (count_up i n))
filter_below p i zero m le = tt
filter_below p i (suc n) m le = grind (arith, filter_below p (suc i) n m)

-- so are those of them that pass, and the first of these
pub all_filtered : (P : ℕ → Type 0) (p : ℕ → Bool) (xs : List ℕ) → AllByRecursion P xs → AllByRecursion P (filter p xs)
all_filtered P p [] h = tt
all_filtered P p (x ∷ xs) h = grind (arith, all_filtered P p xs)

pub all_taken : (P : ℕ → Type 0) (n : ℕ) (xs : List ℕ) → AllByRecursion P xs → AllByRecursion P (take n xs)
all_taken P zero xs h = tt
all_taken P (suc n) [] h = tt
all_taken P (suc n) (x ∷ xs) h = (h.0, all_taken P n xs h.1)

-- some are left where one passes
pub some_filtered : (q : ℕ → Bool) (xs : List ℕ) → nat_lt 0 (length (filter q xs)) ≡ list_any q xs
some_filtered q [] = refl
some_filtered q (x ∷ xs) = grind (arith, nat_tests, some_filtered q xs)

pub some_taken : (n : ℕ) (xs : List ℕ) → nat_lt 0 (length (take (suc n) xs)) ≡ nat_lt 0 (length xs)
some_taken n [] = refl
some_taken n (x ∷ xs) = grind (arith, nat_tests)

-- ---- an element is changed

pub get_changed : {A : Type 0} (f : A → A) (n : ℕ) (xs : List A) (s : ℕ) → slice_get (changed_at f n xs) s ≡ (if n == s then option_map f (slice_get xs s) else slice_get xs s)
get_changed f n [] s = grind arith
get_changed f zero (x ∷ xs) zero = refl
get_changed f zero (x ∷ xs) (suc s) = grind (arith, nat_tests)
get_changed f (suc n) (x ∷ xs) zero = grind (arith, nat_tests)
get_changed f (suc n) (x ∷ xs) (suc s) = grind (arith, nat_tests, get_changed f n xs s)

-- all of these are
pub get_all : (f : ℕ → StreamReset → StreamReset) → ((s : ℕ) (r : StreamReset) → f s (f s r) ≡ f s r) → (ss : List ℕ) (rs : List StreamReset) (s : ℕ)
    → slice_get (all_changed f ss rs) s ≡ (if lists ss s then option_map (f s) (slice_get rs s) else slice_get rs s)
get_all f same [] rs s = refl
get_all f same (x ∷ ss) rs s = grind (arith, nat_tests, get_all f same ss (changed_at (f x) x rs) s, get_changed (f x) x rs s, same s)

pub length-all : (f : ℕ → StreamReset → StreamReset) (ss : List ℕ) (rs : List StreamReset) → length (all_changed f ss rs) ≡ length rs
length-all f [] rs = refl
length-all f (s ∷ ss) rs = length-all f ss (changed_at (f s) s rs) ∙ count_changed (f s) s rs

-- one element, whatever it was, and one that isn't there
pub changed_to : {A : Type 0} (f : A → A) (y : A) (n : ℕ) (xs : List A) → ((x : A) → f x ≡ y) → n < length xs → set xs n y ≡ changed_at f n xs
changed_to f y n [] is low = absurd (omega arith)
changed_to {A = A} f y zero (x ∷ xs) is low = ap (λ (z : A). z ∷ xs) (sym (is x))
changed_to {A = A} f y (suc n) (x ∷ xs) is low = ap (λ (zs : List A). x ∷ zs) (changed_to f y n xs is (omega arith))

pub changed_past : {A : Type 0} (f : A → A) (n : ℕ) (xs : List A) → length xs ≤ n → xs ≡ changed_at f n xs
changed_past f n [] past = refl
changed_past f zero (x ∷ xs) past = absurd (omega arith)
changed_past {A = A} f (suc n) (x ∷ xs) past = ap (λ (zs : List A). x ∷ zs) (changed_past f n xs (omega arith))

-- ---- a walk over a list

-- the element at an offset passes
pub any_found : {A : Type 0} (p : A → Bool) (xs : List A) (n : ℕ) (d : A) → n < length xs → p (get_or xs n d) ≡ true → list_any p (drop n xs) ≡ true
any_found p xs n d low on = rw (drop-cons xs n d low, on) refl

-- it doesn't
pub any_other : {A : Type 0} (p : A → Bool) (xs : List A) (n : ℕ) (d : A) → n < length xs → p (get_or xs n d) ≡ false → list_any p (drop n xs) ≡ list_any p (drop (n + 1) xs)
any_other p xs n d low off = rw (drop-cons xs n d low, off, add-one n) refl

-- one behind an offset passes
pub any_behind : {A : Type 0} (p : A → Bool) (xs : List A) (n : ℕ) → list_any p (drop n xs) ≡ true → list_any p xs ≡ true
any_behind p xs zero on = on
any_behind p [] (suc n) on = on
any_behind p (x ∷ xs) (suc n) on = grind (arith, any_behind p xs n on)

-- there is none
pub any_end : {A : Type 0} (p : A → Bool) (xs : List A) (n : ℕ) → length xs ≤ n → list_any p (drop n xs) ≡ false
any_end p xs n past = rw (drop_all n xs past) refl

-- as many are taken of a list that may have one element more
taken_push : (m : ℕ) (ys : List ℕ) (b : Bool) (y : ℕ) → take m (ys ++ (if b then y ∷ [] else [])) ≡ (if nat_lt (length (take m ys)) m && b then take m ys ++ y ∷ [] else take m ys)
taken_push zero ys b y = grind (arith, nat_tests)
taken_push (suc zero) [] b y = grind (arith, nat_tests)
taken_push (suc (suc m)) [] b y = grind (arith, nat_tests)
taken_push (suc m) (z ∷ ys) b y = grind (arith, nat_tests, taken_push m ys b y)

-- so of those that pass, behind one offset more
pub taken_step : (p : ℕ → Bool) (m n : ℕ) (xs found now : List ℕ) (d : ℕ) → n < length xs → found ≡ take m (filter p (take n xs)) → now ≡ (if nat_lt (length found) m && p (get_or xs n d) then found ++ get_or xs n d ∷ [] else found)
    → now ≡ take m (filter p (take (n + 1) xs))
taken_step p m n xs found now d low so_far is = rw (is, so_far, filter_more p xs n d low) (sym (taken_push m (filter p (take n xs)) (p (get_or xs n d)) (get_or xs n d)))

-- what holds of all holds of the one at an offset
pub all_at : (P : ℕ → Type 0) (xs : List ℕ) (n d : ℕ) → AllByRecursion P xs → n < length xs → P (get_or xs n d)
all_at P [] n d h low = absurd (omega arith)
all_at P (x ∷ xs) zero d h low = h.0
all_at P (x ∷ xs) (suc n) d h low = all_at P xs n d h.1 (omega arith)

-- ---- all of a list are changed, one after the other

pub all_step : (f : ℕ → StreamReset → StreamReset) (ss : List ℕ) (n d : ℕ) (rs : List StreamReset) → n < length ss → all_changed f (drop n ss) rs ≡ all_changed f (drop (n + 1) ss) (changed_at (f (get_or ss n d)) (get_or ss n d) rs)
all_step f ss n d rs low = rw (drop-cons ss n d low, add-one n) refl

pub all_end : (f : ℕ → StreamReset → StreamReset) (ss : List ℕ) (n : ℕ) (rs : List StreamReset) → length ss ≤ n → all_changed f (drop n ss) rs ≡ rs
all_end f ss n rs past = rw (drop_all n ss past) refl

-- one of these streams is below what all of them are below
pub listed_below : (ss : List ℕ) (s n : ℕ) → AllByRecursion (λ (x : ℕ). x < n) ss → lists ss s ≡ true → s < n
listed_below [] s n all on = absurd (cc)
listed_below (x ∷ ss) s n all on = grind (arith, nat_tests, listed_below ss s n all.1)
