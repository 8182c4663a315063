-- What is written for a list of parameters or causes: it is read again, and it grows by one item at a time.
use Rattle.std.proofs.Common.{◌≡◌, ℕ, ◌%◌, true, List, [], ◌∷◌, ◌++◌, length, replicate, refl, sym, ap, subst, ◌∙◌, append_assoc, arith, length-append}
use Rattle.std.specs.Prelude.{Option, Some, None, is_some, unwrap_or}
use Rattle.std.specs.List.{AllByRecursion}
use Rattle.std.proofs.Math.ListN.{length-replicate}
use Rattle.sctp_model.specs.wire.Chunk.{padding_after}
use Rattle.sctp_model.specs.numbers.Numbers.{AreBytes}
use Rattle.sctp_model.specs.wire.Typed.{Typed, IsTyped, typed_bytes, ReadsTyped, NoItem, LastItem, NextItem, filled, written_typed, WritesTyped, typed_of, are_typed, typed_in, AreAsWritten}
use Rattle.sctp_model.proofs.TypedLemmas.{typed_of-nil, length-item, typed_of-reads, reads_typed_in}

pub zeros_long : (n : ℕ) → length {A = ℕ} (replicate n 0) ≡ n
zeros_long n = length-replicate {A = ℕ} n 0

-- after a multiple of 4 bytes they are filled as they are alone
filled_behind : (front rest : List ℕ) → length front % 4 ≡ 0 → filled (front ++ rest) ≡ front ++ filled rest
filled_behind front rest whole =
    let same : padding_after (length (front ++ rest)) ≡ padding_after (length rest) = omega (arith, length-append front rest) in
    rw same (append_assoc front rest (replicate (padding_after (length rest)) 0))

filled_whole : (front : List ℕ) → length (filled front) % 4 ≡ 0
filled_whole front =
    let n = padding_after (length front) in omega (arith, length-append front (replicate n 0), zeros_long n)

-- ---- one item more

pub written_more : (items : List Typed) (item : Typed) → written_typed (items ++ item ∷ []) ≡ filled (written_typed items) ++ typed_bytes item
written_more [] item = refl
written_more (x ∷ []) item = refl
written_more (x ∷ y ∷ others) item =
    let front = filled (typed_bytes x) in
    let rest = written_typed (y ∷ others) in
    ap (λ (bytes : List ℕ). front ++ bytes) (written_more (y ∷ others) item)
    ∙ sym (append_assoc front (filled rest) (typed_bytes item)) ∙ ap (λ (bytes : List ℕ). bytes ++ typed_bytes item) (sym (filled_behind front rest (filled_whole (typed_bytes x))))

all_more : (items : List Typed) (item : Typed) → AllByRecursion IsTyped items → IsTyped item → AllByRecursion IsTyped (items ++ item ∷ [])
all_more [] item all fits = (fits, tt)
all_more (x ∷ others) item (first, all) fits = (first, all_more others item all fits)

pub writes_more : (bytes : List ℕ) (items : List Typed) (item : Typed) → IsTyped item → WritesTyped bytes items → WritesTyped (filled bytes ++ typed_bytes item) (items ++ item ∷ [])
writes_more bytes items item fits w =
    record { bytes_are = rw w.bytes_are (sym (written_more items item)); fit = all_more items item w.fit fits }

pub reads_more : (bytes : List ℕ) (items : List Typed) (item : Typed) → IsTyped item → ReadsTyped bytes items → ReadsTyped (filled bytes ++ typed_bytes item) (items ++ item ∷ [])
reads_more _ _ item fits NoItem = LastItem item fits
reads_more _ _ item fits (LastItem x fit) =
    let n = padding_after (length (typed_bytes x)) in
    subst (λ (bytes : List ℕ). ReadsTyped bytes (x ∷ item ∷ [])) (sym (append_assoc (typed_bytes x) (replicate n 0) (typed_bytes item)))
    (NextItem x (replicate n 0) (typed_bytes item) (item ∷ []) fit (zeros_long n ∙ ap padding_after (length-item x)) (LastItem item fits))
reads_more _ _ item fits (NextItem x padding rest others fit filled_up more) =
    let front = typed_bytes x ++ padding in
    let whole : length front % 4 ≡ 0 = omega (arith, length-append (typed_bytes x) padding, length-item x) in
    let joined : typed_bytes x ++ (padding ++ (filled rest ++ typed_bytes item)) ≡ filled (typed_bytes x ++ (padding ++ rest)) ++ typed_bytes item =
    sym (append_assoc (typed_bytes x) padding (filled rest ++ typed_bytes item)) ∙ sym (append_assoc front (filled rest) (typed_bytes item))
    ∙ ap (λ (bytes : List ℕ). bytes ++ typed_bytes item) (sym (filled_behind front rest whole) ∙ ap filled (append_assoc (typed_bytes x) padding rest)) in
    subst (λ (bytes : List ℕ). ReadsTyped bytes (x ∷ (others ++ item ∷ []))) joined
    (NextItem x padding (filled rest ++ typed_bytes item) (others ++ item ∷ []) fit filled_up (reads_more rest others item fits more))

-- ---- what is written is read

pub reads_written_typed : (items : List Typed) → AllByRecursion IsTyped items → ReadsTyped (written_typed items) items
reads_written_typed [] all = NoItem
reads_written_typed (x ∷ []) (fits, none) = LastItem x fits
reads_written_typed (x ∷ y ∷ others) (fits, all) =
    let n = padding_after (length (typed_bytes x)) in
    subst (λ (bytes : List ℕ). ReadsTyped bytes (x ∷ y ∷ others)) (sym (append_assoc (typed_bytes x) (replicate n 0) (written_typed (y ∷ others))))
    (NextItem x (replicate n 0) (written_typed (y ∷ others)) (y ∷ others) fits (zeros_long n ∙ ap padding_after (length-item x)) (reads_written_typed (y ∷ others) all))

pub reads_writes_typed : (bytes : List ℕ) (items : List Typed) → WritesTyped bytes items → ReadsTyped bytes items
reads_writes_typed bytes items w =
    subst (λ (xs : List ℕ). ReadsTyped xs items) (sym w.bytes_are) (reads_written_typed items w.fit)

pub typed_in-reads : (bytes : List ℕ) (items : List Typed) → ReadsTyped bytes items → typed_in bytes ≡ items
typed_in-reads bytes items reads = ap (λ (o : Option (List Typed)). unwrap_or o []) (typed_of-reads bytes items reads)

pub typed_in-written : (items : List Typed) → AllByRecursion IsTyped items → typed_in (written_typed items) ≡ items
typed_in-written items all = typed_in-reads (written_typed items) items (reads_written_typed items all)

-- ---- bytes as they are written

reads_fit : (bytes : List ℕ) (items : List Typed) → ReadsTyped bytes items → AllByRecursion IsTyped items
reads_fit _ _ NoItem = tt
reads_fit _ _ (LastItem x fits) = (fits, tt)
reads_fit _ _ (NextItem x padding rest others fits filled_up more) = (fits, reads_fit rest others more)

-- only a list is as it is written
listed_by : (bytes : List ℕ) (o : Option (List Typed)) → typed_of bytes ≡ o → bytes ≡ written_typed (unwrap_or o []) → is_some o ≡ true
listed_by bytes (Some items) e as_written = refl
listed_by bytes None e as_written = let nothing : typed_of bytes ≡ Some [] = ap typed_of as_written ∙ typed_of-nil in cc

pub as_written_listed : (bytes : List ℕ) → AreAsWritten bytes → are_typed bytes ≡ true
as_written_listed bytes as_written = listed_by bytes (typed_of bytes) refl as_written

pub as_written_writes : (bytes : List ℕ) → AreBytes bytes → AreAsWritten bytes → WritesTyped bytes (typed_in bytes)
as_written_writes bytes ranged as_written = record {
  bytes_are = as_written;
  fit = reads_fit bytes (typed_in bytes) (reads_typed_in bytes ranged (as_written_listed bytes as_written));
}

pub writes_as_written : (bytes : List ℕ) (items : List Typed) → WritesTyped bytes items → AreAsWritten bytes
writes_as_written bytes items w =
    w.bytes_are ∙ ap written_typed (sym (typed_in-reads bytes items (reads_writes_typed bytes items w)))
