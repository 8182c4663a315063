-- The bytes of a packet in the making: how many they are, that they are written chunks, and which ones.
use Rattle.std.proofs.Common.{◌≡◌, ℕ, ◌+◌, ◌<◌, ◌≤◌, inl, inr, List, [], ◌∷◌, ◌++◌, length, take, drop, refl, sym, ap, ◌∙◌, subst, arith, length-append, length-drop}
use Rattle.std.specs.Prelude.{max, true}
use Rattle.std.specs.List.{flat_map, AllByRecursion}
use Rattle.std.proofs.lemmas.Bool.{cases_lt}
use Rattle.std.proofs.lemmas.Bool.Decides.{nat_tests}
use Rattle.std.proofs.lemmas.List.{take_all, append-nil, length-take, take-append-drop, nil_from_length, take-append-le, drop-append-le}
use Rattle.std.proofs.lemmas.Grind.{common_steps, flat_map-append}
use Rattle.sctp_model.specs.wire.Chunk.{ChunkMeaning, Data, Init, InitAck, Sack, IData, ForwardTsn, IForwardTsn, chunk_length, size_of_chunk}
use Rattle.sctp_model.specs.wire.Packet.{Packet, HEADER_ROOM, size_of_chunks, size_of_packet}
use Rattle.sctp_wire.specs.Layouts.{Fits}
use Rattle.sctp_wire.specs.Reading.{chunks_of, each_of}
use Rattle.sctp_wire.specs.Writes.{written, Writes}
use Rattle.byteorder.specs.Endian.{little_bytes}
use Rattle.sctp_packet.specs.Checksum.{crc32c}
use Rattle.sctp_packet.specs.PacketBytes.{header_bytes, with_sum, packet_bytes, without_sum, IsHeader, WritesPacket}
use Rattle.sctp_packet.specs.Draft.{Draft, with_header, has_room, IsDraft}
use Rattle.sctp_wire.proofs.WriteLemmas.{length-written}
use Rattle.sctp_packet.proofs.HeaderLemmas.{sum_left_out}

-- ---- sizes

size_of_all_written : (ms : List ChunkMeaning) → length (flat_map written ms) ≡ size_of_chunks ms
size_of_all_written [] = refl
size_of_all_written (m ∷ ms) =
    omega (arith, length-append (written m) (flat_map written ms), length-written m, size_of_all_written ms)

pub size_of_writes : (bytes : List ℕ) (ms : List ChunkMeaning) → Writes bytes ms → length bytes ≡ size_of_chunks ms
size_of_writes bytes ms w = ap length w.bytes_are ∙ size_of_all_written ms

pub size_of_more : (ms : List ChunkMeaning) (m : ChunkMeaning) → size_of_chunks (ms ++ m ∷ []) ≡ size_of_chunks ms + size_of_chunk m
size_of_more [] m = omega arith
size_of_more (x ∷ ms) m = omega (arith, size_of_more ms m)

-- every chunk takes some room
least_length : (m : ChunkMeaning) → 4 ≤ chunk_length m
least_length (Data p) = omega arith
least_length (Init i) = omega arith
least_length (InitAck i) = omega arith
least_length (Sack s) = omega arith
least_length (IData p) = omega arith
least_length (ForwardTsn f) = omega arith
least_length (IForwardTsn f) = omega arith
least_length m = omega arith

pub size_some : (m : ChunkMeaning) → 0 < size_of_chunk m
size_some m = omega (arith, least_length m)

-- ---- what is written, and read back

all-append : (ms ns : List ChunkMeaning) → AllByRecursion Fits ms → AllByRecursion Fits ns → AllByRecursion Fits (ms ++ ns)
all-append [] ns p q = q
all-append (m ∷ ms) ns p q = (p.0, all-append ms ns p.1 q)

no_chunks : chunks_of [] ≡ []
unfolding each_of
no_chunks = refl

writes_none : Writes [] []
writes_none = record { bytes_are = refl; fits = tt }

pub writes_more : (bytes : List ℕ) (ms : List ChunkMeaning) (m : ChunkMeaning) → Writes bytes ms → Fits m → Writes (bytes ++ written m) (ms ++ m ∷ [])
writes_more bytes ms m w fits = record {
  bytes_are = rw (w.bytes_are, flat_map-append written ms (m ∷ []), append-nil (written m)) refl;
  fits = all-append ms (m ∷ []) w.fits (fits, tt);
}

-- ---- the bytes kept

pub draft_empty : (limit : ℕ) (header : List ℕ) → IsDraft limit header []
draft_empty limit header = record {
  front = λ some. absurd (omega arith);
  writes = subst (λ (ms : List ChunkMeaning). Writes [] ms) (sym no_chunks) writes_none;
  within = λ some. absurd (omega arith);
}

pub draft_none : (limit : ℕ) (header bytes : List ℕ) → IsDraft limit header bytes → length bytes ≤ HEADER_ROOM → chunks_of (drop HEADER_ROOM bytes) ≡ []
draft_none limit header bytes d short =
    let behind = length-drop HEADER_ROOM bytes in
    let none : drop HEADER_ROOM bytes ≡ [] = nil_from_length _ (omega arith) in
    rw none no_chunks

-- with a header in front nothing else changes
header_there : (header : List ℕ) (b : ℕ) (bytes : List ℕ) → with_header header (b ∷ bytes) ≡ b ∷ bytes
header_there header b bytes = grind (arith, common_steps)

module _ (header : List ℕ) (twelve : length header ≡ HEADER_ROOM) where
  header_first : (limit : ℕ) (bytes : List ℕ) → IsDraft limit header bytes → take HEADER_ROOM (with_header header bytes) ≡ header
  header_first limit [] d = take_all HEADER_ROOM header (omega arith)
  header_first limit (b ∷ bytes) d = rw (header_there header b bytes) (d.front (omega arith))

  header_long : (limit : ℕ) (bytes : List ℕ) → IsDraft limit header bytes → HEADER_ROOM ≤ length (with_header header bytes)
  header_long limit bytes d =
      let short = ap length (header_first limit bytes d) in
      omega (arith, short, length-take HEADER_ROOM (with_header header bytes))

  header_behind : (bytes : List ℕ) → drop HEADER_ROOM (with_header header bytes) ≡ drop HEADER_ROOM bytes
  header_behind [] = nil_from_length (drop HEADER_ROOM header) (omega (arith, length-drop HEADER_ROOM header))
  header_behind (b ∷ bytes) = rw (header_there header b bytes) refl

  -- the bytes of a draft and its chunks say the same size
  pub draft_size : (limit : ℕ) (bytes : List ℕ) → IsDraft limit header bytes → length (with_header header bytes) ≡ size_of_packet (chunks_of (drop HEADER_ROOM bytes))
  draft_size limit bytes d =
      let long = header_long limit bytes d in
      let behind = ap length (header_behind bytes) in
      omega (arith, size_of_writes _ _ d.writes, length-drop HEADER_ROOM (with_header header bytes))

  -- the longer of the header and the bytes
  pub draft_longer : (limit : ℕ) (bytes : List ℕ) → IsDraft limit header bytes → max (length bytes) 12 ≡ size_of_packet (chunks_of (drop HEADER_ROOM bytes))
  draft_longer limit [] d = omega (arith, draft_size limit [] d)
  draft_longer limit (b ∷ bytes) d =
      let long = header_long limit (b ∷ bytes) d in
      let there = ap length (header_there header b bytes) in
      omega (arith, draft_size limit (b ∷ bytes) d)

  -- what has begun has its header
  pub begun_size : (limit : ℕ) (bytes : List ℕ) → IsDraft limit header bytes → 0 < length bytes → length bytes ≡ size_of_packet (chunks_of (drop HEADER_ROOM bytes))
  begun_size limit [] d some = absurd (omega (arith, some))
  begun_size limit (b ∷ bytes) d some = ap length (sym (header_there header b bytes)) ∙ draft_size limit (b ∷ bytes) d

pub begun_header : (header bytes : List ℕ) → 0 < length bytes → with_header header bytes ≡ bytes
begun_header header [] some = absurd (omega (arith, some))
begun_header header (b ∷ bytes) some = header_there header b bytes

-- a chunk for which there is room fits
pub room_fits : (d : Draft) (m : ChunkMeaning) → has_room d m ≡ true → size_of_packet (d.chunks ++ m ∷ []) ≤ d.limit
room_fits d m room = grind (arith, nat_tests)

-- what lacks room for the whole packet has one chunk at most
pub early_whole : (limit capacity : ℕ) (header bytes : List ℕ) → IsDraft limit header bytes → (1 < length (chunks_of (drop HEADER_ROOM bytes)) → limit ≤ capacity) → capacity < max limit 12
    → length (chunks_of (drop HEADER_ROOM bytes)) ≤ 1
early_whole limit capacity header bytes d whole short =
    elim (cases_lt HEADER_ROOM (length bytes)) [
      | inl some ↦ let within = d.within some in elim (cases_lt 1 (length (chunks_of (drop HEADER_ROOM bytes)))) [
        | inl two ↦ let all = whole two in absurd (omega (arith, within, some, all, short))
        | inr few ↦ omega (arith, few)
      ]
      | inr none ↦ let empty = ap length (draft_none limit header bytes d (omega (arith, none))) in omega (arith, empty)
    ]

-- what is written for chunks has them as its chunks
abbrev pub IsReadBack : Type 0
IsReadBack = (bytes : List ℕ) (ms : List ChunkMeaning) → Writes bytes ms → chunks_of bytes ≡ ms

-- a chunk more
pub record IsPut (limit : ℕ) (header bytes after : List ℕ) (m : ChunkMeaning) : Type 0 where
  pub draft : IsDraft limit header after
  pub chunks : chunks_of (drop HEADER_ROOM after) ≡ chunks_of (drop HEADER_ROOM bytes) ++ m ∷ []

pub draft_put : (limit : ℕ) (header bytes after : List ℕ) (m : ChunkMeaning) → length header ≡ HEADER_ROOM → IsReadBack → IsDraft limit header bytes → Fits m
    → size_of_packet (chunks_of (drop HEADER_ROOM bytes) ++ m ∷ []) ≤ limit → after ≡ with_header header bytes ++ written m → IsPut limit header bytes after m
draft_put limit header bytes after m twelve law d fits room is =
    let front = with_header header bytes in
    let long : HEADER_ROOM ≤ length front = header_long header twelve limit bytes d in
    let behind : drop HEADER_ROOM after ≡ drop HEADER_ROOM bytes ++ written m =
    rw (is, drop-append-le HEADER_ROOM front (written m) long, header_behind header twelve bytes) refl in
    let more = subst (λ (xs : List ℕ). Writes xs (chunks_of (drop HEADER_ROOM bytes) ++ m ∷ [])) (sym behind) (writes_more _ _ m d.writes fits) in
    let same = law _ _ more in
    record {
      draft = record {
        front = λ some. rw (is, take-append-le HEADER_ROOM front (written m) long) (header_first header twelve limit bytes d);
        writes = subst (λ (ms : List ChunkMeaning). Writes (drop HEADER_ROOM after) ms) (sym same) more;
        within = λ some. omega (arith, ap length is, length-append front (written m), draft_size header twelve limit bytes d, size_of_more (chunks_of (drop HEADER_ROOM bytes)) m, length-written m);
      };
      chunks = same;
    }

-- what has two chunks had one before
pub room_more : (limit capacity : ℕ) (header bytes after : List ℕ) (m : ChunkMeaning) → IsDraft limit header bytes → IsPut limit header bytes after m
    → (0 < length bytes → limit ≤ capacity) → 1 < length (chunks_of (drop HEADER_ROOM after)) → limit ≤ capacity
room_more limit capacity header [] after m d put whole two =
    let none = ap length (draft_none limit header [] d (omega arith)) in
    absurd (omega (arith, two, none, ap length put.chunks, length-append (chunks_of (drop HEADER_ROOM [])) (m ∷ [])))
room_more limit capacity header (b ∷ bytes) after m d put whole two = whole (omega arith)

-- no checksum lies in its field yet
pub draft_without_sum : (limit : ℕ) (bytes : List ℕ) (p : Packet) → IsDraft limit (header_bytes p.source p.destination p.tag 0) bytes → 0 < length bytes → without_sum bytes ≡ bytes
draft_without_sum limit bytes p d some =
    let body = drop HEADER_ROOM bytes in
    let whole : with_sum p body 0 ≡ bytes =
    ap (λ (xs : List ℕ). xs ++ body) (sym (d.front some)) ∙ take-append-drop HEADER_ROOM bytes in
    ap without_sum (sym whole) ∙ (sum_left_out p body 0 ∙ whole)

-- ---- a finished packet

-- the bytes with the checksum in its field
abbrev pub finished : List ℕ → List ℕ
finished bytes = take 8 bytes ++ (little_bytes 4 (crc32c bytes) ++ drop HEADER_ROOM bytes)

pub record IsFinished (limit : ℕ) (bytes : List ℕ) (p : Packet) : Type 0 where
  pub packet : WritesPacket (finished bytes) p
  pub size : length (finished bytes) ≡ size_of_packet p.chunks
  pub within : length (finished bytes) ≤ limit

finished_is : (p : Packet) (body : List ℕ) → finished (with_sum p body 0) ≡ packet_bytes p body
finished_is p body = refl

-- bytes that were written in place, and nothing behind them
pub kept_all : (long : ℕ) (items new : List ℕ) → long ≡ length items → length new ≡ length items → take long (new ++ drop (length new) items) ≡ new
kept_all long items new a b =
    let whole : long ≤ length new = omega arith in
    take-append-le long new (drop (length new) items) whole ∙ take_all long new (omega arith)

pub length-finished : (bytes : List ℕ) → HEADER_ROOM ≤ length bytes → length (finished bytes) ≡ length bytes
length-finished bytes long =
    let behind = drop HEADER_ROOM bytes in
    length-append (take 8 bytes) (little_bytes 4 (crc32c bytes) ++ behind) ∙ omega (arith, length-take 8 bytes, length-drop HEADER_ROOM bytes)

pub draft_packet : (limit : ℕ) (bytes : List ℕ) (p : Packet) → IsHeader p → IsDraft limit (header_bytes p.source p.destination p.tag 0) bytes
    → HEADER_ROOM < length bytes → p.chunks ≡ chunks_of (drop HEADER_ROOM bytes) → IsFinished limit bytes p
draft_packet limit bytes p header d some chunks =
    let body = drop HEADER_ROOM bytes in
    let whole : with_sum p body 0 ≡ bytes =
    ap (λ (xs : List ℕ). xs ++ body) (sym (d.front (omega arith))) ∙ take-append-drop HEADER_ROOM bytes in
    let layout : finished bytes ≡ packet_bytes p body = ap finished (sym whole) ∙ finished_is p body in
    let writes = subst (λ (ms : List ChunkMeaning). Writes body ms) (sym chunks) d.writes in
    let size = size_of_writes body p.chunks writes in
    let behind = length-drop HEADER_ROOM bytes in
    let same : length (finished bytes) ≡ length bytes = ap length layout ∙ omega arith in
    record {
      packet = record { body = body; layout = layout; header = header; chunks = writes; some = λ none. let zero_size = ap size_of_chunks none in absurd (omega arith) };
      size = omega arith;
      within = omega (arith, d.within some);
    }
