-- Nothing before a cursor passes a test: as items come, go or change, and as a search goes on from there.
use Rattle.std.proofs.Common.{inl, inr, ◌≡◌, ℕ, zero, suc, ◌+◌, ◌-◌, ◌<◌, ◌≤◌, min, List, [], ◌∷◌, ◌++◌, length, map, take, get_or, set, Bool, true, false, Option, Some, None, refl, sym, ap, ◌∙◌, subst, arith, length-append}
use Rattle.std.specs.Prelude.{option_map, is_some, nat_lt, if◌then◌else◌, not, ◌&&◌, ◌==◌}
use Rattle.std.proofs.lemmas.Bool.{cases_lt}
use Rattle.std.proofs.lemmas.List.{length-map, take_all, take_more, take-set-le}
use Rattle.std.proofs.lemmas.Bool.Decides.{nat_tests}
use Rattle.sctp_send.specs.SenderKept.{Item}
use Rattle.sctp_send.specs.OutstandingFields.{item_meaning}
use Rattle.sctp_send.specs.inner.Wishing.{first_offset}
use Rattle.sctp_send.specs.inner.Counting.{furthest}
use Rattle.sctp_send.specs.declared.kept.entry.Entry.{Entry as EntryFields}
use Rattle.sctp_send.proofs.kept.ItemLemmas.{item_read}

-- none of them passes
abbrev pub AreOff : (Item → Bool) → List Item → Type 0
AreOff test [] = Unit {0}
AreOff test (x ∷ xs) = (test x ≡ false) × AreOff test xs

off_of : (test : Item → Bool) (xs : List Item) → first_offset test xs ≡ None → AreOff test xs
off_of test [] none = tt
off_of test (x ∷ xs) none = by_offset (test x) (first_offset test xs) refl none (off_of test xs)
  where
    by_offset : (b : Bool) (o : Option ℕ) → test x ≡ b → (if b then Some 0 else option_map suc o) ≡ None → (o ≡ None → AreOff test xs) → (test x ≡ false) × AreOff test xs
    by_offset true o on is rest = absurd (cc)
    by_offset false None off is rest = (off, rest refl)
    by_offset false (Some k) off is rest = absurd (cc)

of_off : (test : Item → Bool) (xs : List Item) → AreOff test xs → first_offset test xs ≡ None
of_off test [] off = refl
of_off test (x ∷ xs) off = rw (off.0, of_off test xs off.1) refl

-- ---- fewer, or more

off_less : (test : Item → Bool) (xs : List Item) (m n : ℕ) → m ≤ n → AreOff test (take n xs) → AreOff test (take m xs)
off_less test xs zero n le off = tt
off_less test [] (suc m) n le off = tt
off_less test (x ∷ xs) (suc m) zero le off = absurd (omega arith)
off_less test (x ∷ xs) (suc m) (suc n) le off = (off.0, off_less test xs m n (omega arith) off.1)

off_joined : (test : Item → Bool) (xs ys : List Item) (n : ℕ) → n ≤ length xs → AreOff test (take n xs) → AreOff test (take n (xs ++ ys))
off_joined test xs ys zero le off = tt
off_joined test [] ys (suc n) le off = absurd (omega arith)
off_joined test (x ∷ xs) ys (suc n) le off = (off.0, off_joined test xs ys n (omega arith) off.1)

off_behind : (test : Item → Bool) (x : Item) (xs : List Item) (n : ℕ) → AreOff test (take n (x ∷ xs)) → AreOff test (take (n - 1) xs)
off_behind test x xs zero off = let same : zero ≡ zero - 1 = omega arith in subst (λ (k : ℕ). AreOff test (take k xs)) same tt
off_behind test x xs (suc n) off = let same : n ≡ suc n - 1 = omega arith in subst (λ (k : ℕ). AreOff test (take k xs)) same off.1

off_both : (test : Item → Bool) (xs ys : List Item) → AreOff test xs → AreOff test ys → AreOff test (xs ++ ys)
off_both test [] ys one two = two
off_both test (x ∷ xs) ys one two = (one.0, off_both test xs ys one.1 two)

off_set : (test : Item → Bool) (xs : List Item) (n k : ℕ) (x : Item) → test x ≡ false → AreOff test (take k xs) → AreOff test (take k (set xs n x))
off_set test xs n zero x miss off = tt
off_set test [] n (suc k) x miss off = tt
off_set test (y ∷ xs) zero (suc k) x miss off = (miss, off.1)
off_set test (y ∷ xs) (suc n) (suc k) x miss off = (off.0, off_set test xs n k x miss off.1)

-- ---- a search among the first ones finds none

-- among fewer of them
pub none_less : (test : Item → Bool) (xs : List Item) (m n : ℕ) → m ≤ n → first_offset test (take n xs) ≡ None → first_offset test (take m xs) ≡ None
none_less test xs m n le none = of_off test (take m xs) (off_less test xs m n le (off_of test (take n xs) none))

-- a cursor that is lowered to an offset where one passes
pub lower_within : (b : Bool) (k n m : ℕ) → k ≤ m → (if b then min k n else k) ≤ m
lower_within b k n m le = grind (arith, nat_tests)

-- one item more, behind the others: a cursor there passes it, where it doesn't count
pub none_reached : (test : Item → Bool) (xs : List Item) (x : Item) (k n : ℕ) → n ≡ length xs → k ≤ n → first_offset test (take k xs) ≡ None
    → first_offset test (take (furthest n (test x) k) (xs ++ x ∷ [])) ≡ None
none_reached test xs x k n long le none = by_cases (k == n) refl (test x) refl
  where
    off : AreOff test (take k xs)
    off = off_of test (take k xs) none

    stays : first_offset test (take k (xs ++ x ∷ [])) ≡ None
    stays = of_off test (take k (xs ++ x ∷ [])) (off_joined test xs (x ∷ []) k (omega (arith, le, long)) off)

    whole : k ≡ length xs → take k xs ≡ xs
    whole same = take_all k xs (omega (arith, same))

    longer : k ≡ n → take (suc n) (xs ++ x ∷ []) ≡ xs ++ x ∷ []
    longer same = take_all (suc n) (xs ++ x ∷ []) (omega (arith, long, length-append xs (x ∷ [])))

    passes : k ≡ n → test x ≡ false → first_offset test (take (suc n) (xs ++ x ∷ [])) ≡ None
    passes same miss =
        ap (first_offset test) (longer same) ∙ of_off test (xs ++ x ∷ []) (off_both test xs (x ∷ []) (subst (AreOff test) (whole (same ∙ long)) off) (miss, tt))

    by_cases : (b : Bool) → (k == n) ≡ b → (c : Bool) → test x ≡ c → first_offset test (take (if b && not c then suc n else k) (xs ++ x ∷ [])) ≡ None
    by_cases false far c is = stays
    by_cases true near true is = stays
    by_cases true near false is = passes (grind (arith, nat_tests)) is

-- a cursor that passes an offset or stays
pub reach_within : (b : Bool) (k n m : ℕ) → k ≤ m → suc n ≤ m → furthest n b k ≤ m
reach_within b k n m le less = grind (arith, nat_tests)

-- the first item goes
pub none_behind_first : (test : Item → Bool) (x : Item) (xs : List Item) (k : ℕ) → first_offset test (take k (x ∷ xs)) ≡ None → first_offset test (take (k - 1) xs) ≡ None
none_behind_first test x xs k none = of_off test (take (k - 1) xs) (off_behind test x xs k (off_of test (take k (x ∷ xs)) none))

-- an item becomes another
pub none_set : (test : Item → Bool) (xs : List Item) (n k : ℕ) (x : Item) → first_offset test (take k xs) ≡ None → first_offset test (take (if test x then min k n else k) (set xs n x)) ≡ None
none_set test xs n k x none = by_test (test x) refl
  where
    by_test : (b : Bool) → test x ≡ b → first_offset test (take (if b then min k n else k) (set xs n x)) ≡ None
    by_test true on = ap (first_offset test) (take-set-le (min k n) xs n x (omega arith)) ∙ none_less test xs (min k n) k (omega arith) none
    by_test false off = of_off test (take k (set xs n x)) (off_set test xs n k x off (off_of test (take k xs) none))

-- ---- a search that begins at a cursor

-- one entry more that doesn't pass
pub none_more : (test : Item → Bool) (size : ℕ) (es : List EntryFields) (at : ℕ) (x : EntryFields) → at < length es → x ≡ get_or es at x → test (item_meaning size x) ≡ false
    → first_offset test (take at (map (item_meaning size) es)) ≡ None → first_offset test (take (at + 1) (map (item_meaning size) es)) ≡ None
none_more test size es at x lt read off none =
    let items = map (item_meaning size) es in
    let y = item_meaning size x in
    let within : at < length items = omega (arith, length-map es (item_meaning size)) in
    let more : take (at + 1) items ≡ take at items ++ y ∷ [] = take_more items at y within ∙ ap (λ (z : Item). take at items ++ z ∷ []) (item_read size es at x read) in
    ap (first_offset test) more ∙ of_off test (take at items ++ y ∷ []) (off_both test (take at items) (y ∷ []) (off_of test (take at items) none) (off, tt))

found_at : (test : Item → Bool) (xs : List Item) (n : ℕ) (x : Item) → n < length xs → x ≡ get_or xs n x → test x ≡ true → AreOff test (take n xs) → Some n ≡ first_offset test xs
found_at test [] n x lt read on off = absurd (omega arith)
found_at test (y ∷ xs) zero x lt read on off = let here : test y ≡ true = ap test (sym read) ∙ on in rw here refl
found_at test (y ∷ xs) (suc n) x lt read on off = rw off.0 (ap (option_map suc) (found_at test xs n x (omega arith) read on off.1))

-- an entry that passes is the first one
pub first_found : (test : Item → Bool) (size : ℕ) (es : List EntryFields) (at : ℕ) (x : EntryFields) → at < length es → x ≡ get_or es at x → test (item_meaning size x) ≡ true
    → first_offset test (take at (map (item_meaning size) es)) ≡ None → Some at ≡ first_offset test (map (item_meaning size) es)
first_found test size es at x lt read on none =
    let items = map (item_meaning size) es in
    let within : at < length items = omega (arith, length-map es (item_meaning size)) in
    found_at test items at (item_meaning size x) within (sym (item_read size es at x read)) on (off_of test (take at items) none)

-- at the end there is none
pub none_found : (test : Item → Bool) (size : ℕ) (es : List EntryFields) (at : ℕ) → length es ≤ at → first_offset test (take at (map (item_meaning size) es)) ≡ None → None ≡ first_offset test (map (item_meaning size) es)
none_found test size es at le none =
    let items = map (item_meaning size) es in
    let all : take at items ≡ items = take_all at items (omega (arith, length-map es (item_meaning size))) in
    sym none ∙ ap (first_offset test) all

-- whether a search from a cursor on found one
pub search_found : (test : Item → Bool) (size : ℕ) (es : List EntryFields) (at : ℕ) → first_offset test (take at (map (item_meaning size) es)) ≡ None → (at < length es → Some at ≡ first_offset test (map (item_meaning size) es))
    → nat_lt at (length es) ≡ is_some (first_offset test (map (item_meaning size) es))
search_found test size es at none found = elim (cases_lt at (length es)) [
  | inl lt ↦ let on : nat_lt at (length es) ≡ true = grind (arith, nat_tests) in on ∙ ap (λ (o : Option ℕ). is_some o) (found lt)
  | inr le ↦ let off : nat_lt at (length es) ≡ false = grind (arith, nat_tests) in off ∙ ap (λ (o : Option ℕ). is_some o) (none_found test size es at le none)
]
