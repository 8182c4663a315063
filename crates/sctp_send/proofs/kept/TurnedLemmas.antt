-- The counts of all entries once a stretch is set acknowledged, or not, as a whole.
use Rattle.std.proofs.Common.{◌≡◌, ℕ, zero, suc, ◌+◌, ◌-◌, ◌*◌, ◌%◌, ◌^◌, ◌<◌, ◌≤◌, List, [], ◌∷◌, map, take, Bool, true, false, Option, Some, refl, sym, ap, ◌∙◌, arith}
use Rattle.std.specs.Prelude.{not, if◌then◌else◌, option_map}
use Rattle.std.proofs.lemmas.Bool.Decides.{nat_tests}
use Rattle.sctp_model.specs.end.Control.{whole}
use Rattle.sctp_send.specs.SenderKept.{Item}
use Rattle.sctp_send.specs.OutstandingFields.{is_marked, item_meaning}
use Rattle.sctp_send.specs.inner.Changes.{told}
use Rattle.sctp_send.specs.inner.Counting.{count_unsettled, lowered, IsCounted}
use Rattle.sctp_send.specs.inner.Newcomers.{one_if}
use Rattle.sctp_send.specs.inner.Stretching.{IsPlain, IsQuiet, entry_bytes, plain_bytes, plain_chunk, plain_one, AreAlike, run_changed, told_run, turned_counts}
use Rattle.sctp_send.specs.inner.TicketOrder.{tickets_of}
use Rattle.sctp_send.specs.inner.Walks.{abandoned_items, is_item_unsettled}
use Rattle.sctp_send.specs.inner.Wishing.{first_offset, is_item_marked, is_item_unsent, item_weight, item_flight, item_chunk, item_chunks}
use Rattle.sctp_send.specs.declared.kept.counts.Counts.{Counts}
use Rattle.sctp_send.specs.declared.kept.entry.Entry.{Entry as EntryFields}
use Rattle.sctp_send.specs.declared.kept.entry.Standing.TheVariants.{Sent}
use Rattle.sctp_send.proofs.kept.StretchLemmas.{length-run_changed, quiet_told}
use Rattle.sctp_send.proofs.kept.WeightLemmas.{bytes_short, whole_short}

-- ---- a plain entry

-- one that isn't acknowledged has the weight of its bytes, and counts
pub plain_uncovered : (size : ℕ) (e : EntryFields) → IsPlain false e → (item_weight (item_meaning size e) ≡ entry_bytes size e) × (one_if (is_item_unsettled (item_meaning size e)) ≡ 1)
plain_uncovered size e h = (rw (h.out, h.covers, h.kept) refl, rw (h.out, h.covers, h.kept) refl)

-- nor is it to go out
pub plain_lowered : (size at : ℕ) (e : EntryFields) (c : Counts) → IsPlain false e → lowered at (item_meaning size e) c ≡ c
plain_lowered size at e c h = rw h.out refl

-- ---- a quiet entry

-- one that is acknowledged has no weight, and is not unsettled
quiet_covered : (size : ℕ) (e : EntryFields) → IsQuiet true e → (item_weight (item_meaning size e) ≡ 0) × (one_if (is_item_unsettled (item_meaning size e)) ≡ 0)
quiet_covered size e h = (rw h.covers (grind (arith, nat_tests)), rw h.covers (grind (arith, nat_tests)))

-- one that isn't has the weight of its bytes, and counts, unless it is abandoned
quiet_uncovered : (size : ℕ) (e : EntryFields) → IsQuiet false e → (item_weight (item_meaning size e) ≡ plain_bytes size e) × (one_if (is_item_unsettled (item_meaning size e)) ≡ plain_one e)
quiet_uncovered size e h = by_flag e.abandoned refl
  where
    by_flag : (g : Bool) → e.abandoned ≡ g → (item_weight (item_meaning size e) ≡ plain_bytes size e) × (one_if (is_item_unsettled (item_meaning size e)) ≡ plain_one e)
    by_flag true is = (rw (is, h.covers) (grind (arith, nat_tests)), rw (is, h.covers) (grind (arith, nat_tests)))
    by_flag false is = (rw (h.out is, h.covers, is) refl, rw (h.out is, h.covers, is) refl)

-- it is not to go out for the first time
not_first : (size : ℕ) (e : EntryFields) → (e.abandoned ≡ false → e.standing ≡ Sent) → is_item_unsent (item_meaning size e) ≡ false
not_first size e out = by_flag e.abandoned refl
  where
    by_flag : (g : Bool) → e.abandoned ≡ g → is_item_unsent (item_meaning size e) ≡ false
    by_flag true is = rw is (grind (arith, nat_tests))
    by_flag false is = rw (out is) refl

-- ---- sums

-- of entries that are acknowledged, or no longer are
turned_sums : (c : Bool) (header size n q p at k : ℕ) (es : List EntryFields) → AreAlike header size (not c) n q p at k es
    → (item_flight (map (item_meaning size) (told_run c at k es)) + (if c then n else 0) ≡ item_flight (map (item_meaning size) es) + (if c then 0 else n))
    × (item_chunks header (map (item_meaning size) (told_run c at k es)) + (if c then q else 0) ≡ item_chunks header (map (item_meaning size) es) + (if c then 0 else q))
    × (count_unsettled (map (item_meaning size) (told_run c at k es)) + (if c then p else 0) ≡ count_unsettled (map (item_meaning size) es) + (if c then 0 else p))
turned_sums c header size n q p (suc at) k [] h = absurd h
turned_sums c header size n q p (suc at) k (e ∷ es) h = let rest = turned_sums c header size n q p at k es h in (omega (arith, rest.0), omega (arith, rest.1), omega (arith, rest.2))
turned_sums c header size n q p zero zero es h = (grind (arith, nat_tests, h.0), grind (arith, nat_tests, h.1), grind (arith, nat_tests, h.2))
turned_sums c header size n q p zero (suc k) [] h = absurd h
turned_sums true header size n q p zero (suc k) (e ∷ es) h =
    let rest = turned_sums true header size (n - plain_bytes size e) (q - plain_chunk header size e) (p - plain_one e) zero k es h.4 in
    let was = quiet_uncovered size e h.0 in
    let is = quiet_covered size (told true e) (quiet_told false true e h.0) in
    let chunk_was = ap (whole header) was.0 in
    let chunk_is : item_chunk header (item_meaning size (told true e)) ≡ 0 = ap (whole header) is.0 in
    (omega (arith, rest.0, was.0, is.0, h.1), omega (arith, rest.1, chunk_was, chunk_is, h.2), omega (arith, rest.2, was.1, is.1, h.3))
turned_sums false header size n q p zero (suc k) (e ∷ es) h =
    let rest = turned_sums false header size (n - plain_bytes size e) (q - plain_chunk header size e) (p - plain_one e) zero k es h.4 in
    let was = quiet_covered size e h.0 in
    let is = quiet_uncovered size (told false e) (quiet_told true false e h.0) in
    let chunk_was : item_chunk header (item_meaning size e) ≡ 0 = ap (whole header) was.0 in
    let chunk_is = ap (whole header) is.0 in
    (omega (arith, rest.0, was.0, is.0, h.1), omega (arith, rest.1, chunk_was, chunk_is, h.2), omega (arith, rest.2, was.1, is.1, h.3))

-- ---- searches

-- where a test says the same of each entry that is told, the first that passes is the same
same_first : (test : Item → Bool) (header size : ℕ) (b c : Bool) (n q p at k most : ℕ) (es : List EntryFields) → ((e : EntryFields) → IsQuiet b e → test (item_meaning size (told c e)) ≡ test (item_meaning size e)) → AreAlike header size b n q p at k es
    → first_offset test (take most (map (item_meaning size) (told_run c at k es))) ≡ first_offset test (take most (map (item_meaning size) es))
same_first test header size b c n q p at k zero es same h = refl
same_first test header size b c n q p (suc at) k (suc most) [] same h = absurd h
same_first test header size b c n q p (suc at) k (suc most) (e ∷ es) same h = ap (λ (o : Option ℕ). if test (item_meaning size e) then Some 0 else option_map suc o) (same_first test header size b c n q p at k most es same h)
same_first test header size b c n q p zero zero (suc most) es same h = refl
same_first test header size b c n q p zero (suc k) (suc most) [] same h = absurd h
same_first test header size b c n q p zero (suc k) (suc most) (e ∷ es) same h =
    ap (λ (x : Bool). if x then Some 0 else option_map suc (first_offset test (take most (map (item_meaning size) (told_run c zero k es))))) (same e h.0)
    ∙ ap (λ (o : Option ℕ). if test (item_meaning size e) then Some 0 else option_map suc o) (same_first test header size b c (n - plain_bytes size e) (q - plain_chunk header size e) (p - plain_one e) zero k most es same h.4)

quiet_marked : (size : ℕ) (b c : Bool) (e : EntryFields) → IsQuiet b e → is_item_marked (item_meaning size (told c e)) ≡ is_item_marked (item_meaning size e)
quiet_marked size b true e h = ap is_marked h.mark
quiet_marked size b false e h = refl

quiet_unsent : (size : ℕ) (b c : Bool) (e : EntryFields) → IsQuiet b e → is_item_unsent (item_meaning size (told c e)) ≡ is_item_unsent (item_meaning size e)
quiet_unsent size b c e h = not_first size (told c e) (quiet_told b c e h).out ∙ sym (not_first size e h.out)

same_front : (size : ℕ) (g : EntryFields → EntryFields) (at k : ℕ) (es : List EntryFields) → ((e : EntryFields) → (g e).abandoned ≡ e.abandoned) → abandoned_items (map (item_meaning size) (run_changed g at k es)) ≡ abandoned_items (map (item_meaning size) es)
same_front size g (suc at) k [] same = refl
same_front size g (suc at) k (e ∷ es) same = rw (same_front size g at k es same) refl
same_front size g zero zero es same = refl
same_front size g zero (suc k) [] same = refl
same_front size g zero (suc k) (e ∷ es) same = rw (same e, same_front size g zero k es same) refl

pub same_ticket : (b : Bool) (e : EntryFields) → (told b e).message.value.ticket ≡ e.message.value.ticket
same_ticket true e = refl
same_ticket false e = refl

pub same_tickets : (g : EntryFields → EntryFields) (at k : ℕ) (es : List EntryFields) → ((e : EntryFields) → (g e).message.value.ticket ≡ e.message.value.ticket) → tickets_of (run_changed g at k es) ≡ tickets_of es
same_tickets g (suc at) k [] same = refl
same_tickets g (suc at) k (e ∷ es) same = rw (same_tickets g at k es same) refl
same_tickets g zero zero es same = refl
same_tickets g zero (suc k) [] same = refl
same_tickets g zero (suc k) (e ∷ es) same = rw (same e, same_tickets g zero k es same) refl

-- ---- all that is counted

same_flag : (b : Bool) (e : EntryFields) → (told b e).abandoned ≡ e.abandoned
same_flag true e = refl
same_flag false e = refl

counts_turned_by : (size : ℕ) (b c : Bool) (n q p at : ℕ) (es : List EntryFields) (d : Counts) (flight chunks unsettled : ℕ) → AreAlike d.header size b n q p at 64 es → IsCounted size es d
    → flight ≡ item_flight (map (item_meaning size) (told_run c at 64 es)) % 2 ^ 64 → chunks ≡ item_chunks d.header (map (item_meaning size) (told_run c at 64 es)) % 2 ^ 64 → unsettled ≡ count_unsettled (map (item_meaning size) (told_run c at 64 es)) % 2 ^ 64
    → IsCounted size (told_run c at 64 es) (record d { flight = flight; chunks = chunks; unsettled = unsettled })
counts_turned_by size b c n q p at es d flight chunks unsettled h counted one whole_one two =
    let long = length-run_changed (told c) at 64 es in
    record {
      some = counted.some;
      small = counted.small;
      low = counted.low;
      marked = same_first is_item_marked d.header size b c n q p at 64 d.marked es (quiet_marked size b c) h ∙ counted.marked;
      marked_within = let le = counted.marked_within in omega (arith, le, long);
      unsent = same_first is_item_unsent d.header size b c n q p at 64 d.unsent es (quiet_unsent size b c) h ∙ counted.unsent;
      unsent_within = let le = counted.unsent_within in omega (arith, le, long);
      flight = one;
      chunks = whole_one;
      unsettled = two;
      front = counted.front ∙ sym (same_front size (told c) at 64 es (same_flag c));
    }

-- a stretch has so few bytes, its chunks so few, and it has so few entries
plain_few : (size : ℕ) (e : EntryFields) → 0 < size → size < 2 ^ 16 → plain_bytes size e < 2 ^ 16
plain_few size e some small = by_flag e.abandoned
  where
    by_flag : (b : Bool) → (if b then 0 else entry_bytes size e) < 2 ^ 16
    by_flag true = omega arith
    by_flag false = let le = bytes_short size e some in omega (arith, le, small)

one_few : (e : EntryFields) → plain_one e ≤ 1
one_few e = by_flag e.abandoned
  where
    by_flag : (b : Bool) → (if b then 0 else 1) ≤ 1
    by_flag true = omega arith
    by_flag false = omega arith

alike_few : (header size : ℕ) (c : Bool) (n q p at k : ℕ) (es : List EntryFields) → header < 2 ^ 16 → 0 < size → size < 2 ^ 16 → AreAlike header size c n q p at k es → (n ≤ k * 65535) × (q ≤ k * 131072) × (p ≤ k)
alike_few header size c n q p (suc at) k [] low some small h = absurd h
alike_few header size c n q p (suc at) k (e ∷ es) low some small h = alike_few header size c n q p at k es low some small h
alike_few header size c n q p zero zero es low some small h = (omega (arith, h.0), omega (arith, h.1), omega (arith, h.2))
alike_few header size c n q p zero (suc k) [] low some small h = absurd h
alike_few header size c n q p zero (suc k) (e ∷ es) low some small h =
    let rest = alike_few header size c (n - plain_bytes size e) (q - plain_chunk header size e) (p - plain_one e) zero k es low some small h.4 in
    let bytes = plain_few size e some small in
    let chunk = whole_short header (plain_bytes size e) low bytes in
    let one = one_few e in
    (omega (arith, rest.0, bytes, h.1), omega (arith, rest.1, chunk, h.2), omega (arith, rest.2, one, h.3))

pub counts_turned : (size : ℕ) (c : Bool) (n q p at : ℕ) (es : List EntryFields) (d : Counts) → AreAlike d.header size (not c) n q p at 64 es → IsCounted size es d
    → IsCounted size (told_run c at 64 es) (turned_counts n q p c d)
counts_turned size true n q p at es d h counted =
    let few = alike_few d.header size false n q p at 64 es counted.low counted.some counted.small h in
    let sums = turned_sums true d.header size n q p at 64 es h in
    let flight = counted.flight in
    let chunks = counted.chunks in
    let unsettled = counted.unsettled in
    counts_turned_by size false true n q p at es d _ _ _ h counted (omega (arith, few.0, sums.0, flight)) (omega (arith, few.1, sums.1, chunks)) (omega (arith, few.2, sums.2, unsettled))
counts_turned size false n q p at es d h counted =
    let sums = turned_sums false d.header size n q p at 64 es h in
    let flight = counted.flight in
    let chunks = counted.chunks in
    let unsettled = counted.unsettled in
    counts_turned_by size true false n q p at es d _ _ _ h counted (omega (arith, sums.0, flight)) (omega (arith, sums.1, chunks)) (omega (arith, sums.2, unsettled))

pub header_turned : (n q p : ℕ) (c : Bool) (d : Counts) → (turned_counts n q p c d).header ≡ d.header
header_turned n q p true d = refl
header_turned n q p false d = refl
