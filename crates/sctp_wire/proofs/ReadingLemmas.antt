-- How chunks are read, step by step: whole chunks, and then what follows them.
use Rattle.std.proofs.Common.{◌≡◌, ℕ, zero, suc, ◌+◌, ◌-◌, ◌<◌, ◌≤◌, List, [], ◌∷◌, ◌++◌, length, refl, sym, ap, ◌∙◌, subst, append_assoc, arith, length-append, length-drop, inl, inr, Ok, Err}
use Rattle.std.specs.Prelude.{Result}
use Rattle.std.proofs.lemmas.List.{append-nil}
use Rattle.sctp_model.specs.wire.Chunk.{ChunkMeaning, padded}
use Rattle.sctp_wire.specs.declared.fault.Reason.{Reason}
use Rattle.sctp_wire.specs.declared.fault.Reason.TheVariants as reason
use Rattle.sctp_wire.specs.Reads.{ReadsEach}
use Rattle.sctp_wire.specs.FirstFault.{stated_length, IsWrong, FaultsAt}
use Rattle.sctp_wire.specs.Reading.{chunk_at, FaultPlace, onto, followed, chunks_within, each_of}
use Rattle.sctp_wire.proofs.FrameLemmas.{FirstChunk, wrong, right, first_chunk_is, chunk_at-chunk, chunk_at-wrong, chunk_at-shaped, chunk-some}

-- ---- a chunk takes some bytes

-- what a reading leaves is no longer than n
abbrev pub LeavesAtMost : ℕ → Result (ChunkMeaning × List ℕ) Reason → Type 0
LeavesAtMost n (Ok found) = length found.1 ≤ n
LeavesAtMost n (Err why) = Unit {0}

leaves_by : (b : ℕ) (bytes : List ℕ) → FirstChunk (b ∷ bytes) → LeavesAtMost (length bytes) (chunk_at (b ∷ bytes))
leaves_by b bytes (wrong why h) = rw (chunk_at-wrong (b ∷ bytes) why h) tt
leaves_by b bytes (right s) =
    rw (chunk_at-shaped (b ∷ bytes) s) (omega (arith, s.whole.stated, length-drop (padded (stated_length (b ∷ bytes))) (b ∷ bytes)))

pub chunk_at-leaves : (b : ℕ) (bytes : List ℕ) → LeavesAtMost (length bytes) (chunk_at (b ∷ bytes))
chunk_at-leaves b bytes = leaves_by b bytes (first_chunk_is (b ∷ bytes) (omega arith))

-- ---- the function, step by step

same_followed : (k whole : ℕ) (r : Result (ChunkMeaning × List ℕ) Reason) (f g : List ℕ → Result (List ChunkMeaning) FaultPlace) → LeavesAtMost k r
    → ((rest : List ℕ) → length rest ≤ k → f rest ≡ g rest) → followed whole r f ≡ followed whole r g
same_followed k whole (Ok found) f g le h = ap (onto (whole - length found.1) found.0) (h found.1 le)
same_followed k whole (Err why) f g le h = refl

-- more steps than bytes change nothing
chunks_within-same : (m n : ℕ) (bytes : List ℕ) → length bytes ≤ m → length bytes ≤ n → chunks_within m bytes ≡ chunks_within n bytes
chunks_within-same m n [] p q = refl
chunks_within-same zero n (b ∷ bytes) p q = absurd (omega arith)
chunks_within-same (suc m) zero (b ∷ bytes) p q = absurd (omega arith)
chunks_within-same (suc m) (suc n) (b ∷ bytes) p q =
    same_followed (length bytes) (length (b ∷ bytes)) (chunk_at (b ∷ bytes)) (λ rest. chunks_within m rest) (λ rest. chunks_within n rest) (chunk_at-leaves b bytes)
    (λ rest le. chunks_within-same m n rest (omega arith) (omega arith))

pub each_of-nil : each_of [] ≡ Ok []
unfolding each_of
each_of-nil = refl

shorter : (b : ℕ) (bytes : List ℕ) (found : ChunkMeaning × List ℕ) → chunk_at (b ∷ bytes) ≡ Ok found → length found.1 ≤ length bytes
shorter b bytes found h = subst (LeavesAtMost (length bytes)) h (chunk_at-leaves b bytes)

pub each_of-chunk : (bytes : List ℕ) (found : ChunkMeaning × List ℕ) → 0 < length bytes → chunk_at bytes ≡ Ok found
    → each_of bytes ≡ onto (length bytes - length found.1) found.0 (each_of found.1)
unfolding each_of
each_of-chunk [] found some h = absurd (omega arith)
each_of-chunk (b ∷ bytes) found some h =
    ap (λ r. followed (length (b ∷ bytes)) r (λ rest. chunks_within (length bytes) rest)) h
    ∙ ap (onto (length (b ∷ bytes) - length found.1) found.0) (chunks_within-same (length bytes) (length found.1) found.1 (shorter b bytes found h) (omega arith))

pub each_of-fault : (bytes : List ℕ) (why : Reason) → 0 < length bytes → chunk_at bytes ≡ Err why → each_of bytes ≡ Err (record { why = why; offset = 0 })
unfolding each_of
each_of-fault [] why some h = absurd (omega arith)
each_of-fault (b ∷ bytes) why some h = ap (λ r. followed (length (b ∷ bytes)) r (λ rest. chunks_within (length bytes) rest)) h

-- these chunks, which take so many bytes, and then what is read
behind : ℕ → List ChunkMeaning → Result (List ChunkMeaning) FaultPlace → Result (List ChunkMeaning) FaultPlace
behind distance ms (Ok ns) = Ok (ms ++ ns)
behind distance ms (Err at) = Err (record at { offset = at.offset + distance })

-- a place moved on
moved_place : (a b : ℕ) (at : FaultPlace) → a ≡ b → record at { offset = a } ≡ record at { offset = b }
moved_place a b at e = ap (λ (n : ℕ). record at { offset = n }) e

behind-none : (r : Result (List ChunkMeaning) FaultPlace) → r ≡ behind 0 [] r
unfolding behind
behind-none (Ok ns) = refl
behind-none (Err at) = ap (λ (p : FaultPlace). Err p) (moved_place at.offset (at.offset + 0) at (omega arith))

onto-behind : (a b c : ℕ) (m : ChunkMeaning) (ms : List ChunkMeaning) (r : Result (List ChunkMeaning) FaultPlace) → c ≡ a + b
    → onto a m (behind b ms r) ≡ behind c (m ∷ ms) r
unfolding behind
onto-behind a b c m ms (Ok ns) e = refl
onto-behind a b c m ms (Err at) e = ap (λ (p : FaultPlace). Err p) (moved_place (at.offset + b + a) (at.offset + c) at (omega arith))

-- whole chunks are read, and then what follows them
each_of-reads : (ms : List ChunkMeaning) (whole rest : List ℕ) → ReadsEach whole ms → each_of (whole ++ rest) ≡ behind (length whole) ms (each_of rest)
each_of-reads [] whole rest e = rw e (behind-none (each_of rest))
each_of-reads (m ∷ ms) whole rest (chunk, more, joined, reads, others) =
    let found : ChunkMeaning × List ℕ = (m, more ++ rest) in
    let split : whole ++ rest ≡ chunk ++ (more ++ rest) = ap (λ (xs : List ℕ). xs ++ rest) joined ∙ append_assoc chunk more rest in
    let some : 0 < length (chunk ++ (more ++ rest)) = omega (arith, length-append chunk (more ++ rest), chunk-some chunk m reads) in
    let ends : length whole ≡ length (chunk ++ (more ++ rest)) - length (more ++ rest) + length more =
    ap length joined ∙ omega (arith, length-append chunk more, length-append chunk (more ++ rest)) in
    ap each_of split ∙ each_of-chunk (chunk ++ (more ++ rest)) found some (chunk_at-chunk chunk m (more ++ rest) reads)
    ∙ ap (onto (length (chunk ++ (more ++ rest)) - length (more ++ rest)) m) (each_of-reads ms more rest others)
    ∙ onto-behind _ (length more) (length whole) m ms (each_of rest) ends

pub each_of-ok : (bytes : List ℕ) (ms : List ChunkMeaning) → ReadsEach bytes ms → each_of bytes ≡ Ok ms
unfolding behind
each_of-ok bytes ms reads =
    ap each_of (sym (append-nil bytes)) ∙ each_of-reads ms bytes [] reads ∙ ap (behind (length bytes) ms) each_of-nil ∙ ap (λ (ns : List ChunkMeaning). Ok ns) (append-nil ms)

-- a chunk that is wrong has bytes
wrong_some : (rest : List ℕ) (why : Reason) → IsWrong why rest → 0 < length rest
wrong_some rest reason.IsCut (inl h) = h.0
wrong_some rest reason.IsCut (inr h) = omega (arith, h.0.0)
wrong_some rest reason.HasShortLength h = omega (arith, h.0)
wrong_some rest reason.LacksPadding h = omega (arith, h.0.0)
wrong_some rest reason.HasOtherBody h = omega (arith, h.0.0)
wrong_some rest reason.HasNoList h = omega (arith, h.0.0)

-- after whole chunks the fault of the next one
pub each_of-err : (why : Reason) (bytes : List ℕ) (offset : ℕ) → FaultsAt why bytes offset → each_of bytes ≡ Err (record { why = why; offset = offset })
unfolding behind
each_of-err why bytes offset h =
    let at : FaultPlace = record { why = why; offset = 0 } in
    let same : 0 + length h.whole ≡ offset = omega (arith, h.at) in
    ap each_of h.joined ∙ each_of-reads h.chunks h.whole h.rest h.reads
    ∙ ap (behind (length h.whole) h.chunks) (each_of-fault h.rest why (wrong_some h.rest why h.wrong) (chunk_at-wrong h.rest why h.wrong))
    ∙ ap (λ (p : FaultPlace). Err p) (moved_place (0 + length h.whole) offset at same)
