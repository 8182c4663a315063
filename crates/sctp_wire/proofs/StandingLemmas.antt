-- The first bytes of a chunk give its type, and so whether it is data, an INIT or reflected, and how it may be bundled.
use Rattle.std.proofs.Common.{◌≡◌, ℕ, ◌<◌, false, List, [], ◌∷◌, ◌++◌, length, drop, refl, sym, ap, ◌∙◌, arith, Ok}
use Rattle.std.specs.Prelude.{◌==◌, ◌||◌, ◌&&◌, slice_index}
use Rattle.std.proofs.lemmas.Grind.{common_steps}
use Rattle.sctp_model.specs.wire.Chunk.{ChunkMeaning, Data, IData, Init, InitAck, Sack, Heartbeat, HeartbeatAck, Abort, Shutdown, ShutdownAck, Error, CookieEcho, CookieAck, ShutdownComplete, ForwardTsn, IForwardTsn, Unknown, kind_of, padded}
use Rattle.sctp_model.specs.numbers.Numbers.{AreBytes}
use Rattle.sctp_model.specs.wire.Places.{stands_alone, never_follows}
use Rattle.sctp_wire.specs.FirstFault.{stated_length, value_at}
use Rattle.sctp_wire.specs.Layouts.{ReadsFlags, IsReadable}
use Rattle.sctp_wire.specs.Reading.{chunk_at, AreChunks, chunks_of}
use Rattle.sctp_wire.specs.Starts.{starts_with_init, starts_reflected}
use Rattle.sctp_wire.specs.chunks.Flags.{has_flag}
use Rattle.sctp_wire.specs.inner.Frame.{IsWhole}
use Rattle.sctp_wire.specs.inner.Standing.{is_alone, IsParted}
use Rattle.sctp_wire.proofs.KindLemmas.{unlike}
use Rattle.sctp_wire.proofs.PieceLemmas.{reflected_read}
use Rattle.sctp_wire.proofs.FrameLemmas.{FirstChunk, wrong, right, first_chunk_is, chunk_at-wrong, chunk_at-shaped, begins_first}
use Rattle.sctp_wire.proofs.ReadingLemmas.{each_of-fault}
use Rattle.sctp_wire.proofs.OneReading.{chunks_of-chunk, chunks_of-nil}

-- ---- types

pub alone_told : (m : ChunkMeaning) → IsReadable m → stands_alone m ≡ is_alone (kind_of m)
alone_told (Data p) r = refl
alone_told (IData p) r = refl
alone_told (Init i) r = refl
alone_told (InitAck i) r = refl
alone_told (Sack s) r = refl
alone_told (Heartbeat info) r = refl
alone_told (HeartbeatAck info) r = refl
alone_told (Abort t causes) r = refl
alone_told (Shutdown n) r = refl
alone_told ShutdownAck r = refl
alone_told (Error causes) r = refl
alone_told (CookieEcho cookie) r = refl
alone_told CookieAck r = refl
alone_told (ShutdownComplete t) r = refl
alone_told (ForwardTsn f) r = refl
alone_told (IForwardTsn f) r = refl
alone_told (Unknown kind flags value) r =
    let other = r.fields.other in sym (rw (unlike kind 1 other refl, unlike kind 2 other refl, unlike kind 14 other refl) refl)

pub follows_told : (m : ChunkMeaning) → IsReadable m → never_follows m ≡ (is_alone (kind_of m) || (kind_of m == 10))
follows_told (Data p) r = refl
follows_told (IData p) r = refl
follows_told (Init i) r = refl
follows_told (InitAck i) r = refl
follows_told (Sack s) r = refl
follows_told (Heartbeat info) r = refl
follows_told (HeartbeatAck info) r = refl
follows_told (Abort t causes) r = refl
follows_told (Shutdown n) r = refl
follows_told ShutdownAck r = refl
follows_told (Error causes) r = refl
follows_told (CookieEcho cookie) r = refl
follows_told CookieAck r = refl
follows_told (ShutdownComplete t) r = refl
follows_told (ForwardTsn f) r = refl
follows_told (IForwardTsn f) r = refl
follows_told (Unknown kind flags value) r =
    let other = r.fields.other in
    sym (rw (unlike kind 1 other refl, unlike kind 2 other refl, unlike kind 14 other refl, unlike kind 10 other refl) refl)

init_told : (m : ChunkMeaning) (ms : List ChunkMeaning) → IsReadable m → starts_with_init (m ∷ ms) ≡ (kind_of m == 1)
init_told (Data p) ms r = refl
init_told (IData p) ms r = refl
init_told (Init i) ms r = refl
init_told (InitAck i) ms r = refl
init_told (Sack s) ms r = refl
init_told (Heartbeat info) ms r = refl
init_told (HeartbeatAck info) ms r = refl
init_told (Abort t causes) ms r = refl
init_told (Shutdown n) ms r = refl
init_told ShutdownAck ms r = refl
init_told (Error causes) ms r = refl
init_told (CookieEcho cookie) ms r = refl
init_told CookieAck ms r = refl
init_told (ShutdownComplete t) ms r = refl
init_told (ForwardTsn f) ms r = refl
init_told (IForwardTsn f) ms r = refl
init_told (Unknown kind flags value) ms r = sym (unlike kind 1 r.fields.other refl)

reflected_told : (m : ChunkMeaning) (ms : List ChunkMeaning) (flags : ℕ) → IsReadable m → ReadsFlags flags m
    → starts_reflected (m ∷ ms) ≡ (((kind_of m == 6) || (kind_of m == 14)) && has_flag flags 1)
reflected_told (Data p) ms flags r split = refl
reflected_told (IData p) ms flags r split = refl
reflected_told (Init i) ms flags r split = refl
reflected_told (InitAck i) ms flags r split = refl
reflected_told (Sack s) ms flags r split = refl
reflected_told (Heartbeat info) ms flags r split = refl
reflected_told (HeartbeatAck info) ms flags r split = refl
reflected_told (Abort t causes) ms flags r split = sym (reflected_read flags split.0 t split.1)
reflected_told (Shutdown n) ms flags r split = refl
reflected_told ShutdownAck ms flags r split = refl
reflected_told (Error causes) ms flags r split = refl
reflected_told (CookieEcho cookie) ms flags r split = refl
reflected_told CookieAck ms flags r split = refl
reflected_told (ShutdownComplete t) ms flags r split = sym (reflected_read flags split.0 t split.1)
reflected_told (ForwardTsn f) ms flags r split = refl
reflected_told (IForwardTsn f) ms flags r split = refl
reflected_told (Unknown kind kept value) ms flags r split = let other = r.fields.other in sym (rw (unlike kind 6 other refl, unlike kind 14 other refl) refl)

-- ---- the first chunk, and what stands behind it

-- whole chunks begin with one that is right
pub whole_first : (bytes : List ℕ) → 0 < length bytes → AreChunks bytes → IsWhole bytes
whole_first bytes some chunks = by (first_chunk_is bytes some)
  where
    by : FirstChunk bytes → IsWhole bytes
    by (wrong why h) = let fault = each_of-fault bytes why some (chunk_at-wrong bytes why h) in let all = chunks in absurd (cc)
    by (right s) = s.whole

-- they are parted from each other by the first one's length
pub parted_is : (bytes : List ℕ) → 0 < length bytes → AreChunks bytes → IsParted bytes (value_at bytes) (drop (padded (stated_length bytes)) bytes)
parted_is bytes some chunks = by (first_chunk_is bytes some)
  where
    by : FirstChunk bytes → IsParted bytes (value_at bytes) (drop (padded (stated_length bytes)) bytes)
    by (wrong why h) = let fault = each_of-fault bytes why some (chunk_at-wrong bytes why h) in let all = chunks in absurd (cc)
    by (right s) =
        let step = chunks_of-chunk bytes _ some (chunk_at-shaped bytes s) chunks in
        record { head = s.whole.head; laid = s.laid; list = s.list; listed = step.1; chunks = step.0 }

-- what the first two bytes of chunks tell of the first one
pub record IsTold (bytes : List ℕ) : Type 0 where
  pub first : ChunkMeaning
  pub others : List ChunkMeaning
  pub listed : chunks_of bytes ≡ first ∷ others
  pub kind : slice_index bytes 0 ≡ kind_of first
  pub readable : IsReadable first
  pub flagged : ReadsFlags (slice_index bytes 1) first

pub told : (bytes : List ℕ) → AreBytes bytes → 0 < length bytes → AreChunks bytes → IsTold bytes
told bytes ranged some chunks = by (first_chunk_is bytes some)
  where
    of : (m : ChunkMeaning) (rest : List ℕ) → chunk_at bytes ≡ Ok (m, rest) → IsTold bytes
    of m rest found =
        let step = chunks_of-chunk bytes (m, rest) some found chunks in
        let b = begins_first bytes m rest ranged some found in
        let r = b.reads in
        let joined = b.joined ∙ ap (λ (xs : List ℕ). xs ++ rest) r.layout in
        let kind : slice_index bytes 0 ≡ kind_of m = ap (λ (xs : List ℕ). slice_index xs 0) joined in
        let flags : slice_index bytes 1 ≡ r.flags = ap (λ (xs : List ℕ). slice_index xs 1) joined in
        record { first = m; others = chunks_of rest; listed = step.1; kind = kind; readable = r.readable; flagged = rw flags r.flagged }

    by : FirstChunk bytes → IsTold bytes
    by (wrong why h) = let fault = each_of-fault bytes why some (chunk_at-wrong bytes why h) in let all = chunks in absurd (cc)
    by (right s) = of _ _ (chunk_at-shaped bytes s)

pub init_first : (bytes : List ℕ) → AreBytes bytes → 0 < length bytes → AreChunks bytes → starts_with_init (chunks_of bytes) ≡ (slice_index bytes 0 == 1)
init_first bytes ranged some chunks =
    let t = told bytes ranged some chunks in rw (t.listed, t.kind) (init_told t.first t.others t.readable)

pub reflected_first : (bytes : List ℕ) → AreBytes bytes → 0 < length bytes → AreChunks bytes
    → starts_reflected (chunks_of bytes) ≡ (((slice_index bytes 0 == 6) || (slice_index bytes 0 == 14)) && has_flag (slice_index bytes 1) 1)
reflected_first bytes ranged some chunks =
    let t = told bytes ranged some chunks in rw (t.listed, t.kind) (reflected_told t.first t.others (slice_index bytes 1) t.readable t.flagged)

none_of : (n : ℕ) → 0 < n → (n == 0) ≡ false
none_of n some = grind (arith, common_steps)

-- bytes that are chunks hold one where there are some
pub some_chunks : (bytes : List ℕ) → AreChunks bytes → (length (chunks_of bytes) == 0) ≡ (length bytes == 0)
some_chunks [] chunks = rw (chunks_of-nil [] refl) refl
some_chunks (b ∷ bytes) chunks = by (first_chunk_is (b ∷ bytes) (omega arith))
  where
    by : FirstChunk (b ∷ bytes) → (length (chunks_of (b ∷ bytes)) == 0) ≡ (length (b ∷ bytes) == 0)
    by (wrong why h) = let fault = each_of-fault (b ∷ bytes) why (omega arith) (chunk_at-wrong (b ∷ bytes) why h) in let all = chunks in absurd (cc)
    by (right s) =
        let listed = (chunks_of-chunk (b ∷ bytes) _ (omega arith) (chunk_at-shaped (b ∷ bytes) s) chunks).1 in
        ap (λ (ms : List ChunkMeaning). length ms == 0) listed ∙ none_of _ (omega arith) ∙ sym (none_of (length (b ∷ bytes)) (omega arith))
