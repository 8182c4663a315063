-- A chunk that is put into a packet: into one whose memory is reserved, and into any where there is room.
use Rattle.std.proofs.Common.{◌≡◌, ℕ, ◌+◌, ◌<◌, ◌≤◌, List, Bool, true, false, [], ◌∷◌, ◌++◌, length, drop, refl, sym, ap, ◌∙◌, subst, arith, length-append}
use Rattle.std.proofs.lemmas.Grind.{common_steps}
use Rattle.sctp_model.specs.wire.Chunk.{ChunkMeaning, size_of_chunk}
use Rattle.sctp_model.specs.wire.Packet.{HEADER_ROOM, size_of_packet}
use Rattle.sctp_wire.specs.Layouts.{Fits}
use Rattle.sctp_wire.specs.Reading.{chunks_of}
use Rattle.sctp_wire.specs.Writes.{written}
use Rattle.sctp_wire.proofs.WriteLemmas.{length-written}
use Rattle.sctp_packet.specs.PacketBytes.{header_bytes}
use Rattle.sctp_packet.specs.Draft.{Draft, bare, with_chunks, with_header, has_room, room_in, IsKept}
use Rattle.sctp_packet.proofs.DraftLemmas.{IsPut, IsReadBack, size_of_more, size_some, draft_put, draft_size, begun_size, begun_header, room_fits, room_more}

-- what the bytes kept say of the packet
abbrev pub kept_draft : (limit source destination tag : ℕ) → (space : Bool) → (bytes : List ℕ) → Draft
kept_draft limit source destination tag space bytes =
    record { limit = limit; source = source; destination = destination; tag = tag; space = space; chunks = chunks_of (drop HEADER_ROOM bytes) }

module _ (limit source destination tag capacity : ℕ) (space : Bool) (bytes : List ℕ) (d : Draft) (m : ChunkMeaning) (is : kept_draft limit source destination tag space bytes ≡ d)
    (kept : IsKept limit (bare source destination tag) space bytes capacity) (reserved : d.space ≡ true) (room : has_room d m ≡ true) where
  is_reserved : space ≡ true
  is_reserved = ap (λ (x : Draft). x.space) is ∙ reserved

  fits_still : size_of_packet (chunks_of (drop HEADER_ROOM bytes) ++ m ∷ []) ≤ limit
  fits_still = subst (λ (x : Draft). size_of_packet (x.chunks ++ m ∷ []) ≤ x.limit) (sym is) (room_fits d m room)

  -- there is memory for it
  pub put_room : length bytes + length (written m) ≤ capacity
  put_room =
      let size = begun_size (header_bytes source destination tag 0) refl limit bytes kept.draft (kept.begun is_reserved) in
      omega (arith, fits_still, size, size_of_more (chunks_of (drop HEADER_ROOM bytes)) m, length-written m, kept.whole is_reserved)

  is_put : (after : List ℕ) → IsReadBack → Fits m → after ≡ bytes ++ written m → IsPut limit (header_bytes source destination tag 0) bytes after m
  is_put after law fits put =
      let header = header_bytes source destination tag 0 in
      let there = begun_header header bytes (kept.begun is_reserved) in
      draft_put limit header bytes after m refl law kept.draft fits fits_still (put ∙ ap (λ xs. xs ++ written m) (sym there))

  -- it is the last one
  pub put_kept : (after : List ℕ) (more : ℕ) → IsReadBack → Fits m → after ≡ bytes ++ written m → capacity ≤ more → IsKept limit (bare source destination tag) space after more
  put_kept after more law fits put enough =
      let size = ap length put ∙ length-append bytes (written m) in
      let begun = kept.begun is_reserved in
      let whole = kept.whole is_reserved in
      record {
        header = kept.header;
        draft = (is_put after law fits put).draft;
        room = λ two. omega (arith, whole, enough);
        begun = λ again. omega (arith, size, begun);
        whole = λ again. omega (arith, whole, enough);
      }

  pub put_last : (after : List ℕ) → IsReadBack → Fits m → after ≡ bytes ++ written m → kept_draft limit source destination tag space after ≡ with_chunks d (m ∷ [])
  put_last after law fits put = rw (← is, (is_put after law fits put).chunks) refl

-- whether there is room for a chunk, by the bytes that are left
pub is_within : (d : Draft) (m : ChunkMeaning) → size_of_chunk m ≤ room_in d → true ≡ has_room d m
is_within d m enough =
    let more = size_of_more d.chunks m in
    let some = size_some m in
    grind (arith, common_steps)

pub is_past : (d : Draft) (m : ChunkMeaning) → room_in d < size_of_chunk m → false ≡ has_room d m
is_past d m short =
    let more = size_of_more d.chunks m in
    let some = size_some m in
    grind (arith, common_steps)

module _ (limit source destination tag capacity : ℕ) (space : Bool) (bytes : List ℕ) (d : Draft) (m : ChunkMeaning) (is : kept_draft limit source destination tag space bytes ≡ d)
    (kept : IsKept limit (bare source destination tag) space bytes capacity) (enough : size_of_chunk m ≤ room_in d) where
  abbrev header : List ℕ
  header = header_bytes source destination tag 0

  within : size_of_chunk m ≤ room_in (kept_draft limit source destination tag space bytes)
  within = subst (λ (x : Draft). size_of_chunk m ≤ room_in x) (sym is) enough

  -- the packet stays within its limit
  pub try_room : length (with_header (header_bytes source destination tag 0) bytes) + size_of_chunk m ≤ limit
  try_room = omega (arith, draft_size header refl limit bytes kept.draft, within, size_some m)

  is_tried : (after : List ℕ) → IsReadBack → Fits m → after ≡ with_header header bytes ++ written m → IsPut limit header bytes after m
  is_tried after law fits put =
      draft_put limit header bytes after m refl law kept.draft fits (omega (arith, within, size_of_more (chunks_of (drop HEADER_ROOM bytes)) m, size_some m)) put

  -- it is the last one
  pub try_kept : (after : List ℕ) (more : ℕ) → IsReadBack → Fits m → after ≡ with_header (header_bytes source destination tag 0) bytes ++ written m
      → (0 < length bytes → limit ≤ more) → capacity ≤ more → IsKept limit (bare source destination tag) space after more
  try_kept after more law fits put all enough =
      let size = ap length put ∙ length-append (with_header header bytes) (written m) in
      record {
        header = kept.header;
        draft = (is_tried after law fits put).draft;
        room = room_more limit more header bytes after m kept.draft (is_tried after law fits put) all;
        begun = λ reserved. omega (arith, size, length-written m, size_some m);
        whole = λ reserved. omega (arith, kept.whole reserved, enough);
      }

  pub try_last : (after : List ℕ) → IsReadBack → Fits m → after ≡ with_header (header_bytes source destination tag 0) bytes ++ written m
      → kept_draft limit source destination tag space after ≡ with_chunks d (m ∷ [])
  try_last after law fits put = rw (← is, (is_tried after law fits put).chunks) refl
