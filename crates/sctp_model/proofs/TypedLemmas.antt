-- A list of parameters or causes is read in one way, and what is written for one is read again.
use Rattle.std.proofs.Common.{◌≡◌, ℕ, zero, suc, ◌+◌, ◌-◌, ◌*◌, ◌/◌, ◌%◌, ◌<◌, ◌≤◌, ◌^◌, Bool, true, false, List, [], ◌∷◌, ◌++◌, length, take, drop, refl, sym, ap, subst, ◌∙◌, append_assoc, append-nil, arith, length-append, length-drop, ⊎_elim, ◌≢◌}
use Rattle.std.specs.Prelude.{Option, Some, None, ◌==◌, ◌||◌, option_map, is_some, unwrap_or}
use Rattle.std.proofs.lemmas.List.{drop-drop, drop_all, take-append-drop, take_at, drop_at, length-take-le}
use Rattle.std.proofs.lemmas.Bool.{le-leb, eq-eqb}
use Rattle.std.proofs.lemmas.Bool.Decides.{eqb_tells}
use Rattle.std.proofs.lemmas.Grind.{common_steps}
use Rattle.sctp_model.specs.wire.Chunk.{padded, padding_after}
use Rattle.sctp_model.specs.numbers.Numbers.{u16_bytes, u16_at, AreBytes}
use Rattle.sctp_model.specs.wire.Typed.{Typed, IsTyped, typed_length, typed_bytes, ReadsTyped, NoItem, LastItem, NextItem, length_field, starts_typed, typed_at, items_after, typed_of, are_typed, typed_in}
use Rattle.sctp_model.proofs.NumberLemmas.{u16_at-bytes, u16_at-lt}

-- ---- the walk

-- the bytes inside an item say nothing
inside_passed : (n : ℕ) (bytes : List ℕ) → items_after n bytes ≡ items_after 0 (drop n bytes)
inside_passed zero bytes = refl
inside_passed (suc n) [] = refl
inside_passed (suc n) (b ∷ bytes) = inside_passed n bytes

-- an item in front of a list, if it is one
abbrev pub in_front : Typed → Option (List Typed) → Option (List Typed)
in_front item o = option_map (λ (others : List Typed). item ∷ others) o

-- what is after the first item and its padding
abbrev pub behind_first : List ℕ → List ℕ
behind_first bytes = drop (padded (length_field bytes)) bytes

-- the length of an item that begins here: at least a header's, and the item is there, with its padding unless it ends the bytes
pub record HasFirst (bytes : List ℕ) : Type 0 where
  pub least : 4 ≤ length_field bytes
  pub there : length_field bytes ≤ length bytes
  pub room : (length bytes ≢ length_field bytes) → padded (length_field bytes) ≤ length bytes

pub has_first : (bytes : List ℕ) → starts_typed bytes ≡ true → HasFirst bytes
unfolding starts_typed
has_first bytes h = record {
  least = grind (arith, common_steps);
  there = grind (arith, common_steps);
  room = λ other. grind (arith, common_steps);
}

one_on : (k b : ℕ) (bytes : List ℕ) → 1 ≤ k → drop (k - 1) bytes ≡ drop k (b ∷ bytes)
one_on zero b bytes some = absurd (omega arith)
one_on (suc k) b bytes some = let same : suc k - 1 ≡ k = omega arith in rw same refl

-- one step of the walk
pub typed_of-nil : typed_of [] ≡ Some []
unfolding typed_of
typed_of-nil = refl

pub typed_of-first : (bytes : List ℕ) → starts_typed bytes ≡ true → typed_of bytes ≡ in_front (typed_at bytes) (typed_of (behind_first bytes))
unfolding typed_of
typed_of-first [] h = absurd (let f = has_first [] h in let least = f.least in let there = f.there in omega arith)
typed_of-first (b ∷ bytes) h =
    let k = padded (length_field (b ∷ bytes)) in
    let least = (has_first (b ∷ bytes) h).least in
    rw h (ap (in_front (typed_at (b ∷ bytes))) (inside_passed (k - 1) bytes ∙ ap (items_after 0) (one_on k b bytes (omega arith))))

pub typed_of-none : (bytes : List ℕ) → 0 < length bytes → starts_typed bytes ≡ false → typed_of bytes ≡ None
unfolding typed_of
typed_of-none [] some h = absurd (omega arith)
typed_of-none (b ∷ bytes) some h = rw h refl

-- ---- an item's bytes, and what is after them

-- the header, the value, the rest
spread : (item : Typed) (rest : List ℕ) → typed_bytes item ++ rest ≡ u16_bytes item.kind ++ (u16_bytes (typed_length item) ++ (item.value ++ rest))
unfolding u16_bytes
spread item rest = refl

pub length-typed : (item : Typed) (rest : List ℕ) → length (typed_bytes item ++ rest) ≡ typed_length item + length rest
unfolding u16_bytes
length-typed item rest = omega (arith, length-append item.value rest)

pub length-item : (item : Typed) → length (typed_bytes item) ≡ typed_length item
unfolding u16_bytes
length-item item = omega arith

-- bytes that an item begins
pub record IsFirst (item : Typed) (rest bytes : List ℕ) : Type 0 where
  pub here : typed_at bytes ≡ item
  pub size : length_field bytes ≡ typed_length item
  pub long : length bytes ≡ typed_length item + length rest

pub is_first : (item : Typed) (rest : List ℕ) → IsTyped item → IsFirst item rest (typed_bytes item ++ rest)
unfolding u16_bytes
is_first item rest fits =
    let bytes = typed_bytes item ++ rest in
    let kind : u16_at bytes ≡ item.kind = ap u16_at (spread item rest) ∙ u16_at-bytes item.kind _ fits.kind in
    let size : length_field bytes ≡ typed_length item = u16_at-bytes (typed_length item) (item.value ++ rest) fits.length in
    let value : take (typed_length item - 4) (item.value ++ rest) ≡ item.value = take_at item.value rest (typed_length item - 4) (omega arith) in
    record { here = rw (kind, size, value) refl; size = size; long = length-typed item rest }

pub starts_last : (item : Typed) (rest bytes : List ℕ) → IsFirst item rest bytes → length rest ≡ 0 → starts_typed bytes ≡ true
unfolding starts_typed
starts_last item rest bytes first none =
    let size = first.size in
    let long = first.long in
    let least = le-leb 4 (length_field bytes) (omega arith) in
    let ends = eq-eqb (length bytes) (length_field bytes) (omega arith) in
    rw (least, ends) refl

or_true : (b : Bool) → (b || true) ≡ true
or_true true = refl
or_true false = refl

pub starts_padded : (item : Typed) (rest bytes : List ℕ) → IsFirst item rest bytes → padding_after (typed_length item) ≤ length rest → starts_typed bytes ≡ true
unfolding starts_typed
starts_padded item rest bytes first room =
    let size = first.size in
    let long = first.long in
    let least = le-leb 4 (length_field bytes) (omega arith) in
    let padded_there = le-leb (padded (length_field bytes)) (length bytes) (rw (size, long) (omega arith)) in
    rw (least, padded_there) (or_true (length bytes == length_field bytes))

-- ---- the grammar gives what the walk gives

ended : (item : Typed) (bytes : List ℕ) → IsFirst item [] bytes → typed_of bytes ≡ Some (item ∷ [])
ended item bytes first =
    let size = first.size in
    let long = first.long in
    let nothing : behind_first bytes ≡ [] = drop_all (padded (length_field bytes)) bytes (omega arith) in
    typed_of-first bytes (starts_last item [] bytes first refl) ∙ rw (first.here, nothing, typed_of-nil) refl

went_on : (item : Typed) (padding rest : List ℕ) → IsFirst item (padding ++ rest) (typed_bytes item ++ (padding ++ rest)) → length padding ≡ padding_after (typed_length item)
    → typed_of (typed_bytes item ++ (padding ++ rest)) ≡ in_front item (typed_of rest)
went_on item padding rest first filled_up =
    let bytes = typed_bytes item ++ (padding ++ rest) in
    let k = padded (typed_length item) in
    let own = length-item item in
    let behind : drop k bytes ≡ rest = ap (drop k) (sym (append_assoc (typed_bytes item) padding rest)) ∙ drop_at (typed_bytes item ++ padding) rest k (omega (arith, length-append (typed_bytes item) padding)) in
    typed_of-first bytes (starts_padded item (padding ++ rest) bytes first (omega (arith, length-append padding rest))) ∙ rw (first.here, first.size, behind) refl

pub typed_of-reads : (bytes : List ℕ) (items : List Typed) → ReadsTyped bytes items → typed_of bytes ≡ Some items
typed_of-reads _ _ NoItem = typed_of-nil
typed_of-reads _ _ (LastItem item fits) =
    let first = is_first item [] fits in ended item (typed_bytes item) (rw append-nil at first)
typed_of-reads _ _ (NextItem item padding rest others fits filled_up more) =
    went_on item padding rest (is_first item (padding ++ rest) fits) filled_up ∙ ap (in_front item) (typed_of-reads rest others more)

-- ---- what the walk gives is of the grammar

two_back : (a b : ℕ) (rest : List ℕ) → a < 256 → b < 256 → u16_bytes (u16_at (a ∷ b ∷ rest)) ≡ a ∷ b ∷ []
unfolding u16_bytes u16_at
two_back a b rest p q =
    let high : (a * 256 + b) / 256 % 256 ≡ a = omega arith in
    let low : (a * 256 + b) % 256 ≡ b = omega arith in
    rw (high, low) refl

-- an item that begins bytes, and what its length leaves of them
pub record IsCutOff (bytes : List ℕ) : Type 0 where
  pub fits : IsTyped (typed_at bytes)
  pub size : typed_length (typed_at bytes) ≡ length_field bytes
  pub parts : bytes ≡ typed_bytes (typed_at bytes) ++ drop (length_field bytes) bytes

pub cut_off : (bytes : List ℕ) → AreBytes bytes → HasFirst bytes → IsCutOff bytes
cut_off [] ranged f = absurd (let least = f.least in let there = f.there in omega arith)
cut_off (a ∷ []) ranged f = absurd (let least = f.least in let there = f.there in omega arith)
cut_off (a ∷ b ∷ []) ranged f = absurd (let least = f.least in let there = f.there in omega arith)
cut_off (a ∷ b ∷ c ∷ []) ranged f = absurd (let least = f.least in let there = f.there in omega arith)
cut_off (a ∷ b ∷ c ∷ d ∷ tail) ranged f =
    let bytes = a ∷ b ∷ c ∷ d ∷ tail in
    let size = length_field bytes in
    let least = f.least in
    let there = f.there in
    let value = take (size - 4) tail in
    let low : size < 2 ^ 16 = u16_at-lt (c ∷ d ∷ tail) (λ i. ranged (suc (suc i))) in
    let value_length : length value ≡ size - 4 = length-take-le (size - 4) tail (omega arith) in
    let counted : 4 + length value ≡ size = omega arith in
    let left : drop size bytes ≡ drop (size - 4) tail = sym (drop-drop (size - 4) 4 bytes ∙ ap (λ (n : ℕ). drop n bytes) (omega arith)) in
    record {
      fits = record { kind = u16_at-lt bytes ranged; length = omega arith };
      size = counted;
      parts = sym (rw (counted, two_back a b (c ∷ d ∷ tail) (ranged 0) (ranged 1), two_back c d tail (ranged 2) (ranged 3), left, take-append-drop (size - 4) tail) refl);
    }

-- nothing reads as no item
reads_nothing : (bytes : List ℕ) (items : List Typed) → ReadsTyped bytes items → length bytes ≡ 0 → items ≡ []
reads_nothing _ _ NoItem e = refl
reads_nothing _ _ (LastItem item fits) e = absurd (omega (arith, length-item item))
reads_nothing _ _ (NextItem item padding rest others fits filled_up more) e = absurd (omega (arith, length-typed item (padding ++ rest)))

reads_first : (bytes : List ℕ) (others : List Typed) → AreBytes bytes → HasFirst bytes → ReadsTyped (behind_first bytes) others → ReadsTyped bytes (typed_at bytes ∷ others)
reads_first bytes others ranged f more =
    let size = length_field bytes in
    let item = typed_at bytes in
    let c = cut_off bytes ranged f in
    let there = f.there in
    ⊎_elim (λ (last : ((length bytes == size) ≡ true) × (length bytes ≡ size)).
    let ends = last.1 in
    let over : drop size bytes ≡ [] = drop_all size bytes (omega arith) in
    let alone : others ≡ [] = reads_nothing _ others more (omega (arith, length-drop (padded size) bytes)) in
    let whole : typed_bytes item ≡ bytes = sym (c.parts ∙ rw over (append-nil (typed_bytes item))) in
    rw alone (subst (λ (xs : List ℕ). ReadsTyped xs (item ∷ [])) whole (LastItem item c.fits)))
    (λ (other : ((length bytes == size) ≡ false) × (length bytes ≢ size)).
    let room = f.room other.1 in
    let gap = padded size - size in
    let padding = take gap (drop size bytes) in
    let rest : drop gap (drop size bytes) ≡ behind_first bytes = drop-drop gap size bytes ∙ ap (λ (n : ℕ). drop n bytes) (omega arith) in
    let joined : typed_bytes item ++ (padding ++ behind_first bytes) ≡ bytes = sym (c.parts ∙ ap (λ (xs : List ℕ). typed_bytes item ++ xs) (sym (rw (← rest) (take-append-drop gap (drop size bytes))))) in
    let filled_up : length padding ≡ padding_after (typed_length item) = rw c.size (length-take-le gap (drop size bytes) (omega (arith, length-drop size bytes))) in
    subst (λ (xs : List ℕ). ReadsTyped xs (item ∷ others)) joined (NextItem item padding (behind_first bytes) others c.fits filled_up more))
    (eqb_tells (length bytes) size)

-- what an item before a walk's answer says of the answer
front_of : (item : Typed) (o : Option (List Typed)) (items : List Typed) → in_front item o ≡ Some items → (others : List Typed) × ((o ≡ Some others) × (items ≡ item ∷ others))
front_of item None items e = cc
front_of item (Some others) items e = (others, (refl, cc))

reads_by : (b : ℕ) (bytes : List ℕ) (items : List Typed) (t : Bool) → starts_typed (b ∷ bytes) ≡ t → AreBytes (b ∷ bytes)
    → ((others : List Typed) → items_after (padded (length_field (b ∷ bytes)) - 1) bytes ≡ Some others → ReadsTyped (drop (padded (length_field (b ∷ bytes)) - 1) bytes) others)
    → items_after 0 (b ∷ bytes) ≡ Some items → ReadsTyped (b ∷ bytes) items
reads_by b bytes items false e ranged again h = let never = rw e at h in cc
reads_by b bytes items true e ranged again h =
    let first = has_first (b ∷ bytes) e in
    let k = padded (length_field (b ∷ bytes)) in
    let least = first.least in
    let found = front_of (typed_at (b ∷ bytes)) (items_after (k - 1) bytes) items (rw e at h) in
    let behind : ReadsTyped (behind_first (b ∷ bytes)) found.0 = subst (λ (xs : List ℕ). ReadsTyped xs found.0) (one_on k b bytes (omega arith)) (again found.0 found.1.0) in
    subst (λ (xs : List Typed). ReadsTyped (b ∷ bytes) xs) (sym found.1.1) (reads_first (b ∷ bytes) found.0 ranged first behind)

reads_after : (inside : ℕ) (bytes : List ℕ) (items : List Typed) → AreBytes bytes → items_after inside bytes ≡ Some items → ReadsTyped (drop inside bytes) items
reads_after zero [] items ranged h = let none : [] ≡ items = cc in subst (λ (xs : List Typed). ReadsTyped [] xs) none NoItem
reads_after (suc inside) [] items ranged h = let none : [] ≡ items = cc in subst (λ (xs : List Typed). ReadsTyped [] xs) none NoItem
reads_after (suc inside) (b ∷ bytes) items ranged h = reads_after inside bytes items (λ i. ranged (suc i)) h
reads_after zero (b ∷ bytes) items ranged h =
    reads_by b bytes items (starts_typed (b ∷ bytes)) refl ranged (λ others e. reads_after (padded (length_field (b ∷ bytes)) - 1) bytes others (λ i. ranged (suc i)) e) h

some_is : (o : Option (List Typed)) → is_some o ≡ true → o ≡ Some (unwrap_or o [])
some_is None h = cc
some_is (Some items) h = refl

pub reads_typed_in : (bytes : List ℕ) → AreBytes bytes → are_typed bytes ≡ true → ReadsTyped bytes (typed_in bytes)
unfolding typed_of
reads_typed_in bytes ranged h = reads_after 0 bytes (typed_in bytes) ranged (some_is (typed_of bytes) h)
