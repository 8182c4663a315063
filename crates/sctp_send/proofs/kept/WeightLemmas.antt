-- How much an entry weighs that is in flight; what sums over entries come to, and what they tell.
use Rattle.std.proofs.Common.{◌≡◌, ℕ, suc, ◌+◌, ◌*◌, ◌%◌, ◌^◌, ◌<◌, ◌≤◌, List, [], ◌∷◌, length, map, drop, Bool, true, false, Some, refl, sym, ap, ◌∙◌, subst, arith, length-take}
use Rattle.std.specs.Prelude.{if◌then◌else◌, nat_lt, not, ◌&&◌, ◌||◌}
use Rattle.std.specs.List.{sum_by}
use Rattle.std.proofs.lemmas.Bool.Decides.{nat_tests}
use Rattle.std.proofs.lemmas.List.{length-map}
use Rattle.std.proofs.lemmas.List.Sums.{sum_by-cons}
use Rattle.sctp_model.specs.sender.Entries.{bytes_in}
use Rattle.sctp_model.specs.end.Control.{whole}
use Rattle.sctp_send.specs.SenderKept.{Item}
use Rattle.sctp_send.specs.OutstandingFields.{lane_meaning, message_meaning, entry_meaning, item_meaning}
use Rattle.sctp_send.specs.inner.Wishing.{item_bytes, item_weight, item_flight, item_chunk, item_chunks}
use Rattle.sctp_send.specs.inner.Walks.{is_item_unsettled, any_unsettled}
use Rattle.sctp_send.specs.inner.Newcomers.{one_if}
use Rattle.sctp_send.specs.inner.Counting.{count_unsettled}
use Rattle.sctp_send.specs.declared.kept.entry.Content.{Content}
use Rattle.sctp_send.specs.declared.kept.entry.Content.TheVariants.{Fragment, EndMark}
use Rattle.sctp_send.specs.declared.kept.entry.Entry.{Entry as EntryFields}
use Rattle.sctp_send.proofs.fill.ChunkLemmas.{fragment_is}

-- ---- bytes in flight

-- a fragment is no longer than fragments may be
pub bytes_short : (size : ℕ) (e : EntryFields) → 0 < size → length (item_bytes (item_meaning size e)) ≤ size
bytes_short size e some = by_content e.content
  where
    by_content : (p : Content) → length (bytes_in (entry_meaning (lane_meaning e.message.value) e.number p) (Some (message_meaning size e.message.value))) ≤ size
    by_content (Fragment k) =
        let bytes = e.message.value.bytes.items in
        let cut_off = ap (λ (xs : List ℕ). length xs) (fragment_is size k bytes some) ∙ length-take size (drop (k * size) bytes) in
        subst (λ (n : ℕ). n ≤ size) (sym cut_off) (omega arith)
    by_content EndMark = omega arith

if_short : (b : Bool) (n m : ℕ) → n ≤ m → (if b then n else 0) ≤ m
if_short true n m le = le
if_short false n m le = omega arith

pub weight_short : (size : ℕ) (e : EntryFields) → 0 < size → item_weight (item_meaning size e) ≤ size
weight_short size e some =
    let x = item_meaning size e in
    if_short (not x.marked && (x.sent && (not x.covered && not x.abandoned))) (length (item_bytes x)) size (bytes_short size e some)

up_to : (n size : ℕ) → n ≤ size → size < 2 ^ 16 → n ≤ 2 ^ 64
up_to n size le small = omega arith

pub weight_small : (size : ℕ) (e : EntryFields) → 0 < size → size < 2 ^ 16 → item_weight (item_meaning size e) ≤ 2 ^ 64
weight_small size e some small = up_to (item_weight (item_meaning size e)) size (weight_short size e some) small

one_more : (w f n size : ℕ) → w ≤ size → size < 2 ^ 16 → f ≤ n * 65535 → w + f ≤ suc n * 65535
one_more w f n size le small rest = omega arith

-- so few bytes are in flight
pub flight_bound : (size : ℕ) (es : List EntryFields) → 0 < size → size < 2 ^ 16 → item_flight (map (item_meaning size) es) ≤ length es * 65535
flight_bound size [] some small = omega arith
flight_bound size (e ∷ es) some small =
    one_more (item_weight (item_meaning size e)) (item_flight (map (item_meaning size) es)) (length es) size (weight_short size e some) small (flight_bound size es some small)

pub flight_sum : (xs : List Item) → item_flight xs ≡ sum_by item_weight xs
flight_sum [] = refl
flight_sum (x ∷ xs) = ap (λ (n : ℕ). item_weight x + n) (flight_sum xs) ∙ sym (sum_by-cons item_weight x xs)

-- ---- chunks in flight

-- a chunk is no longer than its header and its data, padded
pub whole_short : (header many : ℕ) → header < 2 ^ 16 → many < 2 ^ 16 → whole header many ≤ 131072
whole_short header many small few = grind (arith, nat_tests, small, few)

pub chunk_short : (header size : ℕ) (e : EntryFields) → header < 2 ^ 16 → 0 < size → size < 2 ^ 16 → item_chunk header (item_meaning size e) ≤ 131072
chunk_short header size e low some small = whole_short header (item_weight (item_meaning size e)) low (let le = weight_short size e some in omega (arith, le, small))

pub chunk_small : (header size : ℕ) (e : EntryFields) → header < 2 ^ 16 → 0 < size → size < 2 ^ 16 → item_chunk header (item_meaning size e) ≤ 2 ^ 64
chunk_small header size e low some small = let le = chunk_short header size e low some small in omega (arith, le)

-- so few bytes of chunks are in flight
pub chunks_bound : (header size : ℕ) (es : List EntryFields) → header < 2 ^ 16 → 0 < size → size < 2 ^ 16 → item_chunks header (map (item_meaning size) es) ≤ length es * 131072
chunks_bound header size [] low some small = omega arith
chunks_bound header size (e ∷ es) low some small =
    let one = chunk_short header size e low some small in
    let rest = chunks_bound header size es low some small in
    omega (arith, one, rest)

pub chunk_sum : (header : ℕ) (xs : List Item) → item_chunks header xs ≡ sum_by (item_chunk header) xs
chunk_sum header [] = refl
chunk_sum header (x ∷ xs) = ap (λ (n : ℕ). item_chunk header x + n) (chunk_sum header xs) ∙ sym (sum_by-cons (item_chunk header) x xs)

-- ---- unsettled entries

-- one that is unsettled counts
abbrev pub unsettled_one : Item → ℕ
unsettled_one x = one_if (is_item_unsettled x)

pub one_small : (b : Bool) → one_if b ≤ 2 ^ 64
one_small true = omega arith
one_small false = omega arith

pub unsettled_sum : (xs : List Item) → count_unsettled xs ≡ sum_by unsettled_one xs
unsettled_sum [] = refl
unsettled_sum (x ∷ xs) = ap (λ (n : ℕ). unsettled_one x + n) (unsettled_sum xs) ∙ sym (sum_by-cons unsettled_one x xs)

unsettled_few : (xs : List Item) → count_unsettled xs ≤ length xs
unsettled_few [] = omega arith
unsettled_few (x ∷ xs) = by_test (is_item_unsettled x) (count_unsettled xs) (unsettled_few xs)
  where
    by_test : (b : Bool) (n : ℕ) → n ≤ length xs → one_if b + n ≤ suc (length xs)
    by_test true n le = omega arith
    by_test false n le = omega arith

any_counts : (xs : List Item) → any_unsettled xs ≡ nat_lt 0 (count_unsettled xs)
any_counts [] = refl
any_counts (x ∷ xs) = by_test (is_item_unsettled x) (any_unsettled xs) (count_unsettled xs) (any_counts xs)
  where
    by_test : (b c : Bool) (n : ℕ) → c ≡ nat_lt 0 n → (b || c) ≡ nat_lt 0 (one_if b + n)
    by_test true c n is = grind (arith, nat_tests)
    by_test false c n is = let same : n ≡ 0 + n = omega arith in is ∙ ap (nat_lt 0) same

-- some are, where their count isn't 0
pub some_counts : (size : ℕ) (es : List EntryFields) (n : ℕ) → length es < 2 ^ 64 → n ≡ count_unsettled (map (item_meaning size) es) % 2 ^ 64 → nat_lt 0 n ≡ any_unsettled (map (item_meaning size) es)
some_counts size es n small is =
    let items = map (item_meaning size) es in
    let same : n ≡ count_unsettled items = omega (arith, is, unsettled_few items, length-map es (item_meaning size)) in
    ap (nat_lt 0) same ∙ sym (any_counts items)
