-- Bytes read as at most one list of chunks, or have one fault, never both: what `reading_of` computes.
use Rattle.std.proofs.Common.{◌≡◌, ℕ, zero, suc, ◌+◌, ◌-◌, ◌*◌, ◌<◌, ◌≤◌, List, [], ◌∷◌, ◌++◌, length, refl, sym, ap, ◌∙◌, subst, append_assoc, arith, length-append, ◌⊎◌, inl, inr, Bool, true, false, Ok, Err}
use Rattle.std.specs.Prelude.{Option, Some, None, Result, IsOk, if◌then◌else◌}
use Rattle.std.proofs.lemmas.List.{append-nil, drop_at}
use Rattle.sctp_model.specs.wire.Chunk.{ChunkMeaning, size_of_chunk}
use Rattle.sctp_model.specs.numbers.Numbers.{AreBytes}
use Rattle.sctp_model.specs.wire.Places.{stands_alone, never_follows, misplaced_behind, first_misplaced}
use Rattle.sctp_wire.specs.declared.fault.Reason.{Reason}
use Rattle.sctp_wire.specs.declared.fault.Reason.TheVariants as reason
use Rattle.sctp_wire.specs.declared.fault.WireFault.{WireFault}
use Rattle.sctp_wire.specs.declared.fault.WireFault.TheVariants.{Cut, LengthTooSmall, PaddingMissing, ChunkBody, ParameterLength, NotAlone}
use Rattle.sctp_wire.specs.FaultTree.{fault_at, offset_of}
use Rattle.sctp_wire.specs.Reads.{ReadsChunk, ReadsEach, Reads}
use Rattle.sctp_wire.specs.FirstFault.{IsWrong, FaultsAt, Faults}
use Rattle.sctp_wire.specs.Reading.{chunk_at, FaultPlace, onto, each_of, AreChunks, chunks_or_none, chunks_of}
use Rattle.sctp_wire.specs.Laws.{ReadInOneWay}
use Rattle.sctp_wire.proofs.NumberLemmas.{AreBytes-drop}
use Rattle.sctp_wire.proofs.FrameLemmas.{BeginsWith, begins_first, wrong_first, chunk-some, length-chunk}
use Rattle.sctp_wire.proofs.ReadingLemmas.{each_of-nil, each_of-chunk, each_of-ok, each_of-err}

-- ---- all of the bytes

-- chunks, where the first misplaced one is here
where_placed : List ChunkMeaning → Option ℕ → Result (List ChunkMeaning) WireFault
where_placed ms None = Ok ms
where_placed ms (Some offset) = Err (NotAlone offset)

-- what is read of each chunk by itself, and then of where they stand
placed : Result (List ChunkMeaning) FaultPlace → Result (List ChunkMeaning) WireFault
placed (Ok ms) = where_placed ms (first_misplaced ms)
placed (Err at) = Err (fault_at at.why at.offset)

-- the chunks that bytes are, or their fault
reading_of : List ℕ → Result (List ChunkMeaning) WireFault
reading_of bytes = placed (each_of bytes)

reading_of-each : (bytes : List ℕ) (ms : List ChunkMeaning) → ReadsEach bytes ms → reading_of bytes ≡ where_placed ms (first_misplaced ms)
unfolding reading_of placed
reading_of-each bytes ms each = ap placed (each_of-ok bytes ms each)

reading_of-ok : (bytes : List ℕ) (ms : List ChunkMeaning) → Reads bytes ms → reading_of bytes ≡ Ok ms
unfolding where_placed
reading_of-ok bytes ms reads = reading_of-each bytes ms reads.each ∙ ap (where_placed ms) reads.placed

faulted : (why : Reason) (bytes : List ℕ) (offset : ℕ) → FaultsAt why bytes offset → reading_of bytes ≡ Err (fault_at why offset)
unfolding reading_of placed
faulted why bytes offset h = ap placed (each_of-err why bytes offset h)

reading_of-err : (bytes : List ℕ) (f : WireFault) → Faults bytes f → reading_of bytes ≡ Err f
unfolding where_placed
reading_of-err bytes (Cut offset) h = faulted reason.IsCut bytes offset h
reading_of-err bytes (LengthTooSmall offset) h = faulted reason.HasShortLength bytes offset h
reading_of-err bytes (PaddingMissing offset) h = faulted reason.LacksPadding bytes offset h
reading_of-err bytes (ChunkBody offset) h = faulted reason.HasOtherBody bytes offset h
reading_of-err bytes (ParameterLength offset) h = faulted reason.HasNoList bytes offset h
reading_of-err bytes (NotAlone offset) h = reading_of-each bytes h.chunks h.reads ∙ ap (where_placed h.chunks) h.misplaced

-- what is wrong with a chunk, as a fault
pub fault_of : (why : Reason) (bytes : List ℕ) (offset : ℕ) → FaultsAt why bytes offset → Faults bytes (fault_at why offset)
fault_of reason.IsCut bytes offset h = h
fault_of reason.HasShortLength bytes offset h = h
fault_of reason.LacksPadding bytes offset h = h
fault_of reason.HasOtherBody bytes offset h = h
fault_of reason.HasNoList bytes offset h = h

pub offset_of-at : (why : Reason) (offset : ℕ) → offset_of (fault_at why offset) ≡ offset
offset_of-at reason.IsCut offset = refl
offset_of-at reason.HasShortLength offset = refl
offset_of-at reason.LacksPadding offset = refl
offset_of-at reason.HasOtherBody offset = refl
offset_of-at reason.HasNoList offset = refl

-- ---- what the reader keeps

-- one chunk more behind whole ones
abbrev pub reads-more : (ms : List ChunkMeaning) (whole chunk : List ℕ) (m : ChunkMeaning) → ReadsEach whole ms → ReadsChunk chunk m → ReadsEach (whole ++ chunk) (ms ++ m ∷ [])
reads-more [] whole chunk m e reads = (chunk, [], rw e (sym (append-nil chunk)), reads, refl)
reads-more (n ∷ ms) whole chunk m (first, more, joined, here, others) reads =
    (first, more ++ chunk, ap (λ (xs : List ℕ). xs ++ chunk) joined ∙ append_assoc first more chunk, here, reads-more ms more chunk m others reads)

-- whole chunks stand before what is left
pub record IsReadUpTo (bytes rest : List ℕ) : Type 0 where
  pub whole : List ℕ
  pub chunks : List ChunkMeaning
  pub joined : bytes ≡ whole ++ rest
  pub reads : ReadsEach whole chunks

unfoldable pub read_none : (bytes : List ℕ) → IsReadUpTo bytes bytes
read_none bytes = record { whole = []; chunks = []; joined = refl; reads = refl }

unfoldable pub read_more : (bytes rest after : List ℕ) (m : ChunkMeaning) → IsReadUpTo bytes rest → BeginsWith rest m after → IsReadUpTo bytes after
read_more bytes rest after m up first = record {
  whole = up.whole ++ first.chunk;
  chunks = up.chunks ++ m ∷ [];
  joined = up.joined ∙ ap (λ (xs : List ℕ). up.whole ++ xs) first.joined ∙ sym (append_assoc up.whole first.chunk after);
  reads = reads-more up.chunks up.whole first.chunk m up.reads first.reads;
}

unfoldable pub read_all : (bytes rest : List ℕ) → IsReadUpTo bytes rest → rest ≡ [] → (ms : List ChunkMeaning) × ReadsEach bytes ms
read_all bytes rest up e =
    (up.chunks, subst (λ (xs : List ℕ). ReadsEach xs up.chunks) (sym (up.joined ∙ ap (λ (xs : List ℕ). up.whole ++ xs) e ∙ append-nil up.whole)) up.reads)

-- the fault of what is left, where it stands
pub read_wrong : (bytes rest : List ℕ) (why : Reason) (n : ℕ) → IsReadUpTo bytes rest → n + length rest ≡ length bytes → IsWrong why rest → FaultsAt why bytes n
read_wrong bytes rest why n up e w =
    record { whole = up.whole; rest = rest; chunks = up.chunks; joined = up.joined; reads = up.reads; at = omega (arith, length-append up.whole rest, ap length up.joined); wrong = w }

-- what is left of bytes is bytes
pub rest_bytes : (bytes rest : List ℕ) → AreBytes bytes → IsReadUpTo bytes rest → AreBytes rest
rest_bytes bytes rest fits up =
    subst (λ (xs : List ℕ). AreBytes xs) (drop_at up.whole rest (length up.whole) refl)
    (AreBytes-drop (length up.whole) (up.whole ++ rest) (subst (λ (xs : List ℕ). AreBytes xs) up.joined fits))

pub begins_shorter : (rest after : List ℕ) (m : ChunkMeaning) → BeginsWith rest m after → length after < length rest
begins_shorter rest after m first =
    rw first.joined (omega (arith, length-append first.chunk after, chunk-some first.chunk m first.reads))

-- what stands before what is left
pub left_length : (bytes rest : List ℕ) → IsReadUpTo bytes rest → length bytes - length rest + length rest ≡ length bytes
left_length bytes rest up = omega (arith, ap length up.joined, length-append up.whole rest)

-- ---- what the iterator shows

pub chunks_of-each : (bytes : List ℕ) (ms : List ChunkMeaning) → ReadsEach bytes ms → chunks_of bytes ≡ ms
chunks_of-each bytes ms each = ap chunks_or_none (each_of-ok bytes ms each)

pub are_chunks-each : (bytes : List ℕ) (ms : List ChunkMeaning) → ReadsEach bytes ms → AreChunks bytes
are_chunks-each bytes ms each = rw (each_of-ok bytes ms each) refl

pub chunks_of-nil : (bytes : List ℕ) → bytes ≡ [] → chunks_of bytes ≡ []
chunks_of-nil bytes e = rw (e, each_of-nil) refl

are_chunks-onto : (n : ℕ) (m : ChunkMeaning) (r : Result (List ChunkMeaning) FaultPlace) → IsOk (onto n m r) → IsOk r × (chunks_or_none (onto n m r) ≡ m ∷ chunks_or_none r)
are_chunks-onto n m (Ok ms) h = (refl, refl)
are_chunks-onto n m (Err at) h = cc

-- the first chunk of whole chunks, and the others
pub chunks_of-chunk : (bytes : List ℕ) (found : ChunkMeaning × List ℕ) → 0 < length bytes → chunk_at bytes ≡ Ok found → AreChunks bytes
    → AreChunks found.1 × (chunks_of bytes ≡ found.0 ∷ chunks_of found.1)
chunks_of-chunk bytes found some h all =
    let step = each_of-chunk bytes found some h in
    let rest = are_chunks-onto (length bytes - length found.1) found.0 (each_of found.1) (rw step at all) in
    (rest.0, ap chunks_or_none step ∙ rest.1)

-- ---- the law

-- whole chunks, or a fault
abbrev Reading : List ℕ → Type 0
Reading bytes = ((ms : List ChunkMeaning) × Reads bytes ms) ⊎ ((f : WireFault) × Faults bytes f)

-- where whole chunks stand
placed_or_not : (bytes : List ℕ) (ms : List ChunkMeaning) (o : Option ℕ) → first_misplaced ms ≡ o → ReadsEach bytes ms → Reading bytes
placed_or_not bytes ms None e each = inl (ms, record { each = each; placed = e })
placed_or_not bytes ms (Some offset) e each = inr (NotAlone offset, record { chunks = ms; reads = each; misplaced = e })

read_on_by : (most b : ℕ) (bytes rest : List ℕ) (r : Result (ChunkMeaning × List ℕ) Reason) → chunk_at (b ∷ rest) ≡ r → length rest ≤ most → AreBytes bytes
    → IsReadUpTo bytes (b ∷ rest) → ((after : List ℕ) → length after ≤ most → IsReadUpTo bytes after → Reading bytes) → Reading bytes
read_on_by most b bytes rest (Ok found) e short fits up on =
    let first = begins_first (b ∷ rest) found.0 found.1 (rest_bytes bytes (b ∷ rest) fits up) (omega arith) e in
    on found.1 (omega (arith, begins_shorter (b ∷ rest) found.1 found.0 first)) (read_more bytes (b ∷ rest) found.1 found.0 up first)
read_on_by most b bytes rest (Err why) e short fits up on =
    let before = length bytes - length (b ∷ rest) in
    inr (fault_at why before, fault_of why bytes before (read_wrong bytes (b ∷ rest) why before up (left_length bytes (b ∷ rest) up) (wrong_first (b ∷ rest) why (omega arith) e)))

read_on : (most : ℕ) (bytes rest : List ℕ) → length rest ≤ most → AreBytes bytes → IsReadUpTo bytes rest → Reading bytes
read_on most bytes [] short fits up =
    let all = read_all bytes [] up refl in placed_or_not bytes all.0 (first_misplaced all.0) refl all.1
read_on zero bytes (b ∷ rest) short fits up = absurd (omega arith)
read_on (suc most) bytes (b ∷ rest) short fits up =
    read_on_by most b bytes rest (chunk_at (b ∷ rest)) refl (omega arith) fits up (λ after le more. read_on most bytes after le fits more)

pub read_in_one_way : (bytes : List ℕ) → ReadInOneWay bytes
read_in_one_way bytes = record {
  one_list = λ ms ns p q. let one = reading_of-ok bytes ms p in let other = reading_of-ok bytes ns q in cc;
  one_fault = λ f g p q. let one = reading_of-err bytes f p in let other = reading_of-err bytes g q in cc;
  never_both = λ ms f p q. let one = reading_of-ok bytes ms p in let other = reading_of-err bytes f q in cc;
  one_of_them = λ fits. read_on (length bytes) bytes bytes (omega arith) fits (read_none bytes);
}

pub reads_few : (ms : List ChunkMeaning) (bytes : List ℕ) → ReadsEach bytes ms → 4 * length ms ≤ length bytes
reads_few [] bytes e = omega arith
reads_few (m ∷ ms) bytes (chunk, rest, joined, reads, others) =
    rw joined (omega (arith, length-append chunk rest, chunk-some chunk m reads, reads_few ms rest others))

-- a misplaced chunk begins within the bytes
behind_within : (ms : List ChunkMeaning) (rest : List ℕ) (before offset : ℕ) → ReadsEach rest ms → misplaced_behind before ms ≡ Some offset → offset ≤ before + length rest
behind_within [] rest before offset each e = cc
behind_within (m ∷ ms) rest before offset (chunk, more, joined, reads, others) e =
    follows_within (never_follows m) (size_of_chunk m) (length more) (length rest) before offset (misplaced_behind (before + size_of_chunk m) ms) e
    (λ later. behind_within ms more (before + size_of_chunk m) offset others later) (ap length joined ∙ omega (arith, length-append chunk more, length-chunk chunk m reads))
  where
    follows_within : (t : Bool) (size more long before offset : ℕ) (later : Option ℕ) → (if t then Some before else later) ≡ Some offset → (later ≡ Some offset → offset ≤ before + size + more) → long ≡ size + more → offset ≤ before + long
    follows_within true size more long before offset later e others whole = let same : before ≡ offset = cc in omega arith
    follows_within false size more long before offset later e others whole = omega (arith, others e)

first_within : (t : Bool) (offset long : ℕ) (later : Option ℕ) → (if t then Some 0 else later) ≡ Some offset → (later ≡ Some offset → offset ≤ long) → offset ≤ long
first_within true offset long later e others = let same : 0 ≡ offset = cc in omega arith
first_within false offset long later e others = others e

pub misplaced_within : (ms : List ChunkMeaning) (bytes : List ℕ) (offset : ℕ) → ReadsEach bytes ms → first_misplaced ms ≡ Some offset → offset ≤ length bytes
misplaced_within [] bytes offset each e = cc
misplaced_within (m ∷ []) bytes offset each e = cc
misplaced_within (m ∷ next ∷ ms) bytes offset (chunk, rest, joined, reads, others) e =
    first_within (stands_alone m) offset (length bytes) (misplaced_behind (size_of_chunk m) (next ∷ ms)) e
    (λ later. let within = behind_within (next ∷ ms) rest (size_of_chunk m) offset others later in
    omega (arith, ap length joined, length-append chunk rest, length-chunk chunk m reads))
