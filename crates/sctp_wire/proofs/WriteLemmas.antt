-- What is written is read again.
use Rattle.std.proofs.Common.{◌≡◌, ℕ, List, [], ◌∷◌, ◌++◌, length, replicate, refl, sym, ap, ◌∙◌, subst, append_assoc, arith, length-append}
use Rattle.std.specs.List.{flat_map, AllByRecursion}
use Rattle.std.proofs.Math.ListN.{length-replicate}
use Rattle.std.proofs.lemmas.List.{append-nil}
use Rattle.std.proofs.lemmas.List.Concat.{flat_map-append}
use Rattle.sctp_model.specs.wire.Chunk.{ChunkMeaning, chunk_length, padding_after, size_of_chunk}
use Rattle.sctp_model.specs.numbers.Numbers.{u16_bytes}
use Rattle.sctp_model.specs.wire.Places.{ArePlaced}
use Rattle.sctp_wire.specs.Layouts.{flags_of, value_of, Fits}
use Rattle.sctp_wire.specs.Reads.{ReadsChunk, ReadsEach, Reads}
use Rattle.sctp_wire.specs.Writes.{written, Writes}
use Rattle.sctp_wire.specs.Laws.{Join}
use Rattle.sctp_wire.proofs.NumberLemmas.{length-u16}
use Rattle.sctp_wire.proofs.ItemLemmas.{all-append}
use Rattle.sctp_wire.proofs.BodyLemmas.{length-value_of, reads_value_of, reads_flags_of}

length-zeros : (n : ℕ) → length {A = ℕ} (replicate n 0) ≡ n
length-zeros n = length-replicate {A = ℕ} n 0

pub length-written : (m : ChunkMeaning) → length (written m) ≡ size_of_chunk m
length-written m =
    let padding : List ℕ = replicate (padding_after (chunk_length m)) 0 in
    omega (arith, length-append (u16_bytes (chunk_length m)) (value_of m ++ padding), length-u16 (chunk_length m), length-append (value_of m) padding, length-zeros (padding_after (chunk_length m)), length-value_of m)

reads_written : (m : ChunkMeaning) → Fits m → ReadsChunk (written m) m
reads_written m fits = record {
  flags = flags_of m;
  value = value_of m;
  padding = replicate (padding_after (chunk_length m)) 0;
  layout = refl;
  flagged = reads_flags_of m;
  valued = reads_value_of m;
  filled = length-zeros (padding_after (chunk_length m));
  readable = record { fields = fits.fields; length = fits.length };
}

-- what is written for chunks reads as these chunks
reads_all_written : (ms : List ChunkMeaning) → AllByRecursion Fits ms → ReadsEach (flat_map written ms) ms
reads_all_written [] fits = refl
reads_all_written (m ∷ ms) fits = (written m, flat_map written ms, refl, reads_written m fits.0, reads_all_written ms fits.1)

pub reads_each_written : (bytes : List ℕ) (ms : List ChunkMeaning) → Writes bytes ms → ReadsEach bytes ms
reads_each_written bytes ms w =
    subst (λ (xs : List ℕ). ReadsEach xs ms) (sym w.bytes_are) (reads_all_written ms w.fits)

pub reads_writes : (bytes : List ℕ) (ms : List ChunkMeaning) → Writes bytes ms → ArePlaced ms → Reads bytes ms
reads_writes bytes ms w placed = record { each = reads_each_written bytes ms w; placed = placed }

-- a chunk alone stands where it may
pub placed_one : (m : ChunkMeaning) → ArePlaced (m ∷ [])
placed_one m = refl

-- what is written for a chunk is that of a list of one, and reads, alone, as that chunk
pub writes_one : (m : ChunkMeaning) → Fits m → Writes (written m) (m ∷ [])
writes_one m fits = record { bytes_are = sym (append-nil (written m)); fits = (fits, tt) }

pub reads_one : (m : ChunkMeaning) → Fits m → Reads (written m) (m ∷ [])
reads_one m fits = reads_writes (written m) (m ∷ []) (writes_one m fits) (placed_one m)

-- ---- chunks behind chunks

reads_join : (ms ns : List ChunkMeaning) (front back : List ℕ) → ReadsEach front ms → ReadsEach back ns → ReadsEach (front ++ back) (ms ++ ns)
reads_join [] ns front back e q = rw e q
reads_join (m ∷ ms) ns front back (chunk, rest, joined, reads, others) q =
    (chunk, rest ++ back, ap (λ (xs : List ℕ). xs ++ back) joined ∙ append_assoc chunk rest back, reads, reads_join ms ns rest back others q)

writes_join : (ms ns : List ChunkMeaning) (front back : List ℕ) → Writes front ms → Writes back ns → Writes (front ++ back) (ms ++ ns)
writes_join ms ns front back p q =
    record { bytes_are = rw (p.bytes_are, q.bytes_are) (sym (flat_map-append written ms ns)); fits = all-append Fits ms ns p.fits q.fits }

pub chunks_join : (front back : List ℕ) (ms ns : List ChunkMeaning) → Join front back ms ns
chunks_join front back ms ns =
    record { read = λ p q. reads_join ms ns front back p q; written = λ p q. writes_join ms ns front back p q }
