-- A chunk with a new index, on a stream that exists: what the stream says of it is what the view says.
use Rattle.std.proofs.Common.{◌≡◌, ℕ, suc, ◌+◌, ◌-◌, ◌<◌, ◌≤◌, Bool, true, false, List, Option, Some, length, get_or, refl, sym, ◌∙◌, ap, subst, arith}
use Rattle.std.specs.Prelude.{◌||◌, ◌&&◌}
use Rattle.std.proofs.lemmas.List.{length-map}
use Rattle.std.proofs.lemmas.Option.{slice_get_read}
use Rattle.sctp_model.specs.numbers.Limits.{WINDOW}
use Rattle.sctp_model.specs.numbers.Serial.{COUNTS}
use Rattle.sctp_model.specs.wire.Chunk.{PieceMeaning}
use Rattle.sctp_model.specs.messages.Format.{Format, Kind, Lane, is_numbered}
use Rattle.sctp_model.specs.messages.Framing.{lane_kind}
use Rattle.sctp_model.specs.messages.Pieces.{Piece}
use Rattle.sctp_model.specs.receiver.ReceiverView.{ReceiverView}
use Rattle.sctp_model.specs.receiver.Reading.{lane_of, piece_at}
use Rattle.sctp_model.specs.receiver.PieceTaken.{is_passed, is_repeated}
use Rattle.sctp_chains.specs.Cells.{IsOf, counted}
use Rattle.sctp_recv.specs.declared.answer.Row.{Row}
use Rattle.sctp_recv.specs.declared.answer.Row.TheVariants.{Duplicate, Ahead, NoSuchStream, Passed, NoRoom, Uncounted, Taken}
use Rattle.sctp_recv.specs.declared.stream.Stream.{Stream}
use Rattle.sctp_recv.specs.declared.receiver.Receiver.{Receiver}
use Rattle.sctp_recv.specs.Fields.{inside, stream_of}
use Rattle.sctp_recv.specs.Filed.{Keeps, IsFiledOn}
use Rattle.sctp_recv.specs.Resets.{resets_in, restart_in, base_of}
use Rattle.sctp_recv.specs.KeptOf.{kept_of}
use Rattle.sctp_recv.specs.ReceiverKept.{StreamKept, ReceiverKept, stream_at, near_of, number_read, IsCount, in_64, lowest_of, is_below_or_none}
use Rattle.sctp_recv.specs.SeenKept.{is_reached, AreWithin}
use Rattle.sctp_recv.specs.StandsFor.{KeepsView, StandsFor}
use Rattle.sctp_recv.specs.inner.Rows.{number_at, IsAbove, IsNewIndex, IsByRoom, IsRowOf}
use Rattle.sctp_recv.proofs.AnswerLemmas.{new_index, row_passed, row_room, row_taken, number_same, passed_late, passed_is}
use Rattle.sctp_recv.proofs.ChunkLemmas.{chunk_of, held_in_view}
use Rattle.sctp_recv.proofs.NumberLemmas.{beyond, not_late, not_repeated}
use Rattle.sctp_recv.proofs.StreamLemmas.{stream_mapped}

-- the number is below those that the stream waits for, or there is none where there should be one
abbrev pub comes_late : Format → PieceMeaning → StreamKept → Option ℕ → Bool
comes_late f p s n = is_numbered f (lane_kind p.unordered) && is_below_or_none (lowest_of s (lane_kind p.unordered)) n

-- The chunk p has the new index i, and its stream x reads the number n for it; it says whether p comes too late.
pub record IsRead {F : Type 0} (f : Format) (k : ReceiverKept) (v : ReceiverView) (p : PieceMeaning) (i : ℕ) (x : Stream F) (n : Option ℕ) (late : Bool) : Type 0 where
  pub keeps : KeepsView f k v
  pub within : AreWithin (k.seen.cumulative + WINDOW) k.seen.runs
  pub above : IsAbove k.initial k.seen.cumulative p.tsn i
  pub new : is_reached k.seen i ≡ false
  pub low : p.stream < length k.streams
  pub stream : stream_of x ≡ stream_at k.streams p.stream
  pub own : IsFiledOn f v.kept p.stream x
  pub near : n ≡ number_read f (lane_kind p.unordered) (base_of (restart_in k.resets p.stream) (lane_kind p.unordered)) p.number (near_of (stream_of x) (lane_kind p.unordered))
  pub small : IsCount n
  pub is_late : late ≡ comes_late f p (stream_of x) n

-- what the calls say that read it: the cumulative index c, the stream's place s, and whether the index was reached
pub read_at : {F : Type 0} (f : Format) (r : Receiver F) (v : ReceiverView) (p : PieceMeaning) (c i s : ℕ) (x : Stream F) (n : Option ℕ) (reached late : Bool) (kind : Kind) → kind ≡ lane_kind p.unordered → StandsFor f r v → c ≡ r.seen.kept.cumulative →
    AreWithin (r.seen.kept.cumulative + WINDOW) r.seen.kept.runs → IsAbove r.initial c p.tsn i → reached ≡ is_reached r.seen.kept i → reached ≡ false → s ≡ p.stream → s < length r.streams.items →
    x ≡ get_or r.streams.items s x → n ≡ number_read f kind (base_of (restart_in (resets_in r.resets) p.stream) kind) p.number (near_of (stream_of x) kind) → IsCount n → late ≡ (is_numbered f kind && is_below_or_none (lowest_of (stream_of x) kind) n) → IsRead f (kept_of r) v p i x n late
unfolding StandsFor
read_at f r v p c i s x n reached late kind is_kind w c_is within at reached_is new s_is low got near small late_is = record {
  keeps = w.0;
  within = within;
  above = subst (λ (m : ℕ). IsAbove r.initial m p.tsn i) c_is at;
  new = sym reached_is ∙ new;
  low = let all = length-map r.streams.items stream_of in omega (arith, low, s_is, all);
  stream = sym (stream_mapped r.streams.items s x low got) ∙ ap (λ (j : ℕ). stream_at (kept_of r).streams j) s_is;
  own = subst (λ (q : ℕ). IsFiledOn f v.kept q x) s_is (w.1.0.each s x (slice_get_read r.streams.items (length r.streams.items) s x refl low got));
  near = subst (λ (q : Kind). n ≡ number_read f q (base_of (restart_in (resets_in r.resets) p.stream) q) p.number (near_of (stream_of x) q)) is_kind near;
  small = small;
  is_late = subst (λ (q : Kind). late ≡ (is_numbered f q && is_below_or_none (lowest_of (stream_of x) q) n)) is_kind late_is;
}

-- the stream's answer whether it keeps the fragment already
abbrev pub SaysHeld : {F : Type 0} → Format → Stream F → PieceMeaning → Option ℕ → Bool → Type 0
SaysHeld f x p n held = (j : ℕ) (l : Lane) (ks : List Piece) → Keeps f (inside x) p.unordered l ks → IsOf f l (counted j p n) → held ≡ is_repeated f ks (counted j p n)

module _ {F : Type 0} {f : Format} {k : ReceiverKept} {v : ReceiverView} {p : PieceMeaning} {i : ℕ} {x : Stream F} {n : Option ℕ} {late : Bool} (h : IsRead f k v p i x n late) where
  number : n ≡ (piece_at f v k.seen.cumulative p).number
  number = h.near ∙ ap (λ (a : StreamKept). number_read f (lane_kind p.unordered) (base_of (restart_in k.resets p.stream) (lane_kind p.unordered)) p.number (near_of a (lane_kind p.unordered))) h.stream ∙ number_same f k v p h.keeps h.within

  late_is : late ≡ comes_late f p (stream_at k.streams p.stream) n
  late_is = h.is_late ∙ ap (λ (a : StreamKept). comes_late f p a n) h.stream

  index : IsNewIndex f k v p i
  index = new_index f k v p h.keeps h.within i h.above h.new

  pub read_late : late ≡ true → IsRowOf f k v p (Passed i)
  read_late is = (row_passed f k v p h.keeps h.within i h.above h.new h.low (passed_late f k v p h.keeps h.within n number (sym late_is ∙ is)), index)

  module _ (word : p.word < COUNTS) (not_late : late ≡ false) (held : Bool) (says : SaysHeld f x p n held) where
    of : IsOf f (lane_of p.stream p.unordered) (counted i p n)
    of = chunk_of f p n i (base_of (restart_in k.resets p.stream) (lane_kind p.unordered)) (near_of (stream_of x) (lane_kind p.unordered)) (lowest_of (stream_of x) (lane_kind p.unordered)) h.near h.small (sym h.is_late ∙ not_late) index.count word

    passed : is_passed f v (piece_at f v k.seen.cumulative p) ≡ held
    passed =
        passed_is f k v p h.keeps h.within n late held number late_is (held_in_view f v p n x i (piece_at f v k.seen.cumulative p).index held h.own says of index.index)
        ∙ ap (λ (b : Bool). b || held) not_late

    pub read_held : held ≡ true → IsRowOf f k v p (Passed i)
    read_held is = (row_passed f k v p h.keeps h.within i h.above h.new h.low (passed ∙ is), index)

    module _ (free : held ≡ false) where
      pub read_room : k.buffer < k.held + length p.bytes → IsRowOf f k v p NoRoom
      read_room large = row_room f k v p h.keeps h.within i h.above h.new h.low (passed ∙ free) large

      pub read_taken : k.held + length p.bytes ≤ k.buffer → IsRowOf f k v p (Taken i n)
      read_taken fits = (
        row_taken f k v p h.keeps h.within i h.above h.new h.low (passed ∙ free) fits,
        record {
          new = index;
          number = number;
          small = h.small;
          stream = h.low;
          wanted = passed ∙ free;
          fits = fits;
          of = of;
        },
      )

-- a chunk with a new index on a stream that exists, whose number is no count below the largest, is kept if it fits the buffer
pub read_beyond : {F : Type 0} (f : Format) (r : Receiver F) (v : ReceiverView) (p : PieceMeaning) (c i s : ℕ) (x : Stream F) (reached : Bool) (kind : Kind) (row : Row) → kind ≡ lane_kind p.unordered → StandsFor f r v →
    c ≡ r.seen.kept.cumulative → AreWithin (r.seen.kept.cumulative + WINDOW) r.seen.kept.runs → IsAbove r.initial c p.tsn i → reached ≡ is_reached r.seen.kept i → reached ≡ false → s ≡ p.stream →
    s < length r.streams.items → x ≡ get_or r.streams.items s x → in_64 (number_at f (resets_in r.resets) p.stream (stream_of x) kind p.number) ≡ Some (COUNTS - 1) →
    lowest_of (stream_of x) kind < COUNTS → IsByRoom (kept_of r) (length p.bytes) row → IsRowOf f (kept_of r) v p row
unfolding StandsFor
read_beyond f r v p c i s x reached kind row is_kind w c_is bounds at reached_is new s_is low got large lowest by = finish row by
  where
    k : ReceiverKept
    k = kept_of r

    here : IsAbove k.initial k.seen.cumulative p.tsn i
    here = subst (λ (m : ℕ). IsAbove r.initial m p.tsn i) c_is at

    fresh : is_reached k.seen i ≡ false
    fresh = sym reached_is ∙ new

    under : p.stream < length k.streams
    under = let all = length-map r.streams.items stream_of in omega (arith, low, s_is, all)

    stream : stream_of x ≡ stream_at k.streams p.stream
    stream = sym (stream_mapped r.streams.items s x low got) ∙ ap (λ (j : ℕ). stream_at k.streams j) s_is

    read : Option ℕ
    read = number_at f k.resets p.stream (stream_at k.streams p.stream) (lane_kind p.unordered) p.number

    capped : in_64 (number_at f (resets_in r.resets) p.stream (stream_of x) kind p.number) ≡ in_64 read
    capped = (λ j. in_64 (number_at f k.resets p.stream (stream j) (is_kind j) p.number))

    own : (m : ℕ) × (read ≡ Some m) × (COUNTS ≤ suc m)
    own = beyond (Some (COUNTS - 1)) read (sym large ∙ capped) refl

    number : Some own.0 ≡ (piece_at f v k.seen.cumulative p).number
    number = sym own.1 ∙ number_same f k v p w.0 bounds

    least : lowest_of (stream_at k.streams p.stream) (lane_kind p.unordered) < COUNTS
    least = let same : lowest_of (stream_of x) kind ≡ lowest_of (stream_at k.streams p.stream) (lane_kind p.unordered) = (λ j. lowest_of (stream j) (is_kind j)) in omega (arith, lowest, same)

    passed : is_passed f v (piece_at f v k.seen.cumulative p) ≡ false
    passed = passed_is f k v p w.0 bounds (Some own.0) false false number
        (sym (not_late (is_numbered f (lane_kind p.unordered)) (lowest_of (stream_at k.streams p.stream) (lane_kind p.unordered)) own.0 least own.2))
        (sym (not_repeated f v.kept (counted (piece_at f v k.seen.cumulative p).index p (Some own.0)) own.0 (λ y there m is. w.0.numbers y m there is) own.2 refl))

    finish : (o : Row) → IsByRoom k (length p.bytes) o → IsRowOf f k v p o
    finish NoRoom large_by = row_room f k v p w.0 bounds i here fresh under passed large_by
    finish Uncounted fits = row_taken f k v p w.0 bounds i here fresh under passed fits
    finish Duplicate never = absurd never
    finish Ahead never = absurd never
    finish (NoSuchStream j) never = absurd never
    finish (Passed j) never = absurd never
    finish (Taken j m) never = absurd never
