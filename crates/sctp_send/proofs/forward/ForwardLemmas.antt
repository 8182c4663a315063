-- The FORWARD, from what a sender keeps: the largest numbers that were passed, as entries on the wire.
use Rattle.std.proofs.Common.{◌≡◌, ℕ, zero, suc, ◌+◌, ◌-◌, ◌*◌, ◌%◌, ◌^◌, ◌<◌, ◌≤◌, List, [], ◌∷◌, ◌++◌, length, map, take, drop, Bool, true, false, Option, Some, None, refl, sym, ap, ◌∙◌, arith}
use Rattle.std.specs.Prelude.{nat_le, if◌then◌else◌}
use Rattle.std.specs.List.{AllByRecursion}
use Rattle.std.proofs.lemmas.List.{length-map, map-append, take-map}
use Rattle.std.proofs.lemmas.Bool.Decides.{nat_tests}
use Rattle.sctp_model.specs.messages.Format.{Format, Plain, Interleaved, Lane, is_numbered}
use Rattle.sctp_model.specs.messages.Framing.{lane_kind, wire_number, forward_chunk}
use Rattle.sctp_values.specs.Meanings.{kind_meaning}
use Rattle.sctp_values.specs.declared.kind.Kind.{Kind}
use Rattle.sctp_values.specs.declared.kind.Kind.TheVariants.{Ordered, Unordered}
use Rattle.sctp_model.specs.messages.Plan.{Entry}
use Rattle.sctp_model.specs.wire.Chunk.{ChunkMeaning, ForwardMeaning, chunk_length, padded, size_of_chunk}
use Rattle.sctp_model.specs.messages.Forward.{Skip}
use Rattle.sctp_model.specs.sender.SenderView.{SenderView}
use Rattle.sctp_model.specs.sender.Readers.{point}
use Rattle.sctp_model.specs.sender.Forwarding.{largest_in, entries_to, skip_in, skip_of, skips_on, skips_below}
use Rattle.sctp_model.specs.sender.SentChunks.{is_unordered, skip_said}
use Rattle.sctp_model.proofs.sender.OwedLaws.{is_promised, is_windowed}
use Rattle.sctp_model.specs.numbers.Numbers.{AreBytes}
use Rattle.sctp_wire.specs.Layouts.{Fits}
use Rattle.sctp_wire.specs.Skips.{skip_size, skips_in, IsSkip}
use Rattle.sctp_wire.proofs.SkipLemmas.{length-skips_in, all-skips_in}
use Rattle.sctp_packet.specs.Draft.{Draft, room_in, has_room}
use Rattle.sctp_packet.proofs.DraftLemmas.{size_of_more}
use Rattle.sctp_framing.specs.SkipForms.{skip_form}
use Rattle.sctp_send.specs.SenderKept.{Item, Kept}
use Rattle.sctp_send.specs.OutstandingFields.{lane_of, item_meaning, entries_of}
use Rattle.sctp_send.specs.SenderStands.{items_from, Keeps}
use Rattle.sctp_send.specs.inner.Walks.{abandoned_items}
use Rattle.sctp_send.specs.declared.kept.entry.Entry.{Entry as EntryFields}
use Rattle.sctp_send.proofs.KeepLemmas.{kept_length}
use Rattle.sctp_send.proofs.ReaderLemmas.{run_items, run_within}

-- ---- an entry on the wire

-- the flag U that says a kind
kind_said : (kind : Kind) → lane_kind (is_unordered (kind_meaning kind)) ≡ kind_meaning kind
kind_said Ordered = refl
kind_said Unordered = refl

pub skip_fits : (f : Format) (stream n : ℕ) (unordered : Bool) (kind : Kind) → stream < 2 ^ 16 → is_numbered f (kind_meaning kind) ≡ true → lane_kind unordered ≡ kind_meaning kind
    → IsSkip (skip_form f) (record { stream = stream; unordered = unordered; number = wire_number f (kind_meaning kind) n })
skip_fits Plain stream n unordered Unordered small on flag = absurd (cc)
skip_fits Plain stream n true Ordered small on flag = absurd (cc)
skip_fits Plain stream n false Ordered small on flag = (small, omega arith, refl)
skip_fits Interleaved stream n unordered kind small on flag = (small, omega arith)

pub none_in : (f : Format) → skips_in (skip_form f) [] ≡ []
unfolding skips_in
none_in Plain = refl
none_in Interleaved = refl

pub none_counted : (f : Format) (xs : List ℕ) → xs ≡ [] → (length xs ≡ skip_size (skip_form f) * length (skips_in (skip_form f) xs)) × (skips_in (skip_form f) xs ≡ [])
none_counted f xs is = rw is (count f, none_in f)
  where
    count : (g : Format) → 0 ≡ skip_size (skip_form g) * length (skips_in (skip_form g) [])
    count Plain = rw (none_in Plain) refl
    count Interleaved = rw (none_in Interleaved) refl

-- ---- the whole chunk

forward_length : (f : Format) (x : ForwardMeaning) → chunk_length (forward_chunk f x) ≡ 8 + skip_size (skip_form f) * length x.skips
forward_length Plain x = refl
forward_length Interleaved x = refl

-- what fits: the entries within their bits, and not too many of them
pub forward_fits : (f : Format) (cumulative : ℕ) (bytes : List ℕ) → cumulative < 2 ^ 32 → AreBytes bytes → length bytes ≤ 1500 → Fits (forward_chunk f (record { cumulative = cumulative; skips = skips_in (skip_form f) bytes }))
forward_fits Plain cumulative bytes low are few =
    let many = length-skips_in (skip_form Plain) bytes in
    record { fields = record { cumulative = low; skips = all-skips_in (skip_form Plain) bytes are }; length = omega (arith, many, few); plain = tt }
forward_fits Interleaved cumulative bytes low are few =
    let many = length-skips_in (skip_form Interleaved) bytes in
    record { fields = record { cumulative = low; skips = all-skips_in (skip_form Interleaved) bytes are }; length = omega (arith, many, few); plain = tt }

all_joined : {A : Type 0} (P : A → Type 0) (xs ys : List A) → AllByRecursion P xs → AllByRecursion P ys → AllByRecursion P (xs ++ ys)
all_joined P [] ys h k = k
all_joined P (x ∷ xs) ys h k = (h.0, all_joined P xs ys h.1 k)

lane_fits : (f : Format) (base : Lane → ℕ) (es : List Entry) (stream : ℕ) (kind : Kind) → stream < 2 ^ 16 → AllByRecursion (IsSkip (skip_form f)) (map (skip_said f base) (skip_of f es (lane_of stream kind)))
lane_fits f base es stream kind small = by_kind (is_numbered f (kind_meaning kind)) refl
  where
    by_largest : is_numbered f (kind_meaning kind) ≡ true → (o : Option ℕ) → AllByRecursion (IsSkip (skip_form f)) (map (skip_said f base) (skip_in (lane_of stream kind) o))
    by_largest on None = tt
    by_largest on (Some n) = (skip_fits f stream (n - base (lane_of stream kind)) (is_unordered (kind_meaning kind)) kind small on (kind_said kind), tt)

    by_kind : (b : Bool) → is_numbered f (kind_meaning kind) ≡ b → AllByRecursion (IsSkip (skip_form f)) (map (skip_said f base) (if b then skip_in (lane_of stream kind) (largest_in (lane_of stream kind) None es) else []))
    by_kind false off = tt
    by_kind true on = by_largest on (largest_in (lane_of stream kind) None es)

-- the entries of a FORWARD are within their bits
pub all_fit : (f : Format) (base : Lane → ℕ) (es : List Entry) (streams : ℕ) → streams ≤ 2 ^ 16 → AllByRecursion (IsSkip (skip_form f)) (map (skip_said f base) (skips_below f es streams))
all_fit f base es zero le = tt
all_fit f base es (suc s) le =
    rw (map-append (skip_said f base) (skips_below f es s) (skips_on f es s), map-append (skip_said f base) (skip_of f es (lane_of s Ordered)) (skip_of f es (lane_of s Unordered)))
    (all_joined (IsSkip (skip_form f)) (map (skip_said f base) (skips_below f es s)) (map (skip_said f base) (skip_of f es (lane_of s Ordered)) ++ map (skip_said f base) (skip_of f es (lane_of s Unordered))) (all_fit f base es s (omega arith))
    (all_joined (IsSkip (skip_form f)) (map (skip_said f base) (skip_of f es (lane_of s Ordered))) (map (skip_said f base) (skip_of f es (lane_of s Unordered))) (lane_fits f base es s Ordered (omega arith)) (lane_fits f base es s Unordered (omega arith))))

-- a FORWARD is as long with its padding
pub forward_size : (f : Format) (x : ForwardMeaning) → size_of_chunk (forward_chunk f x) ≡ 8 + skip_size (skip_form f) * length x.skips
forward_size f x = ap padded (forward_length f x) ∙ whole f (length x.skips)
  where
    whole : (g : Format) (n : ℕ) → padded (8 + skip_size (skip_form g) * n) ≡ 8 + skip_size (skip_form g) * n
    whole Plain n = omega arith
    whole Interleaved n = omega arith

-- it fits where its entries do
pub room_counted : (f : Format) (base : Lane → ℕ) (d : Draft) (n cumulative : ℕ) (xs : List Skip) → n ≡ length xs
    → nat_le (8 + skip_size (skip_form f) * n) (room_in d) ≡ has_room d (forward_chunk f (record { cumulative = cumulative; skips = map (skip_said f base) xs }))
room_counted f base d n cumulative xs is = grind (arith, nat_tests, size, size_of_more d.chunks chunk)
  where
    chunk : ChunkMeaning
    chunk = forward_chunk f (record { cumulative = cumulative; skips = map (skip_said f base) xs })

    size : size_of_chunk chunk ≡ 8 + skip_size (skip_form f) * n
    size =
        let all : length (map (skip_said f base) xs) ≡ n = length-map xs (skip_said f base) ∙ sym is in
        forward_size f (record { cumulative = cumulative; skips = map (skip_said f base) xs }) ∙ rw all refl

-- ---- what is kept, and the view

entries_back : (v : SenderView) (i : ℕ) (es : List Entry) → entries_of (items_from v i es) ≡ es
entries_back v i [] = refl
entries_back v i (e ∷ es) = ap (λ (xs : List Entry). e ∷ xs) (entries_back v (suc i) es)

pub first_entries : (size run : ℕ) (es : List EntryFields) → entries_of (map (item_meaning size) (take run es)) ≡ take run (entries_of (map (item_meaning size) es))
first_entries size run es = simp take-map

-- how far the point is past CUM
pub record IsPassed (v : SenderView) (run : ℕ) : Type 0 where
  pub point : point v ≡ v.cum + run
  pub within : v.cum + run < 2 ^ 64

pub is_passed : (f : Format) (s : Kept) (v : SenderView) → Keeps f s v → IsPassed v (abandoned_items s.items % 2 ^ 32)
is_passed f s v k =
    let run = ap abandoned_items k.holds.items ∙ run_items v (suc v.cum) (drop v.cum v.plan.entries) in
    let within = run_within s.items in
    let long = kept_length f s v k in
    let most = is_promised f v k.reached in
    let window = is_windowed f v k.reached in
    record { point = omega (arith, run, within, long, window); within = omega (arith, run, within, long, most) }

-- the first entries that are kept are the first ones after CUM
pub first_kept : (f : Format) (s : Kept) (v : SenderView) (size n : ℕ) (es : List EntryFields) → Keeps f s v → s.items ≡ map (item_meaning size) es
    → entries_of (map (item_meaning size) (take n es)) ≡ take n (drop v.cum v.plan.entries)
first_kept f s v size n es k is =
    first_entries size n es ∙ ap (λ (xs : List Item). take n (entries_of xs)) (sym is ∙ k.holds.items) ∙ ap (take n) (entries_back v (suc v.cum) (drop v.cum v.plan.entries))

pub first_to : (f : Format) (s : Kept) (v : SenderView) (size n : ℕ) (es : List EntryFields) → Keeps f s v → s.items ≡ map (item_meaning size) es
    → entries_of (map (item_meaning size) (take n es)) ≡ entries_to v (v.cum + n)
first_to f s v size n es k is =
    let count : v.cum + n - v.cum ≡ n = omega arith in
    first_kept f s v size n es k is ∙ rw count refl
