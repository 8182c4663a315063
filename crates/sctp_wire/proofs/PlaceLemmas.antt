-- One walk over chunks finds the first misplaced one.
use Rattle.std.proofs.Common.{◌≡◌, ℕ, ◌+◌, ◌-◌, ◌<◌, Bool, true, false, List, [], ◌∷◌, ◌++◌, length, refl, sym, ap, ◌∙◌, arith, length-append}
use Rattle.std.specs.Prelude.{Option, Some, None, ◌==◌, ◌||◌, ◌&&◌, nat_lt, slice_index, if◌then◌else◌}
use Rattle.std.proofs.lemmas.Bool.{lt-ltb}
use Rattle.sctp_model.specs.wire.Chunk.{ChunkMeaning, kind_of, size_of_chunk}
use Rattle.sctp_model.specs.wire.Places.{stands_alone, never_follows, misplaced_behind, first_misplaced}
use Rattle.sctp_wire.specs.Layouts.{IsReadable}
use Rattle.sctp_wire.specs.Reads.{ReadsChunk, ReadsEach}
use Rattle.sctp_wire.specs.inner.Standing.{is_alone, is_misplaced, found_with}
use Rattle.sctp_wire.proofs.FrameLemmas.{BeginsWith, chunk-some, length-chunk}
use Rattle.sctp_wire.proofs.OneReading.{IsReadUpTo, read_none, read_more, read_all}
use Rattle.sctp_wire.proofs.StandingLemmas.{alone_told, follows_told}

-- ---- truth

and_true : (b : Bool) → (b && true) ≡ b
and_true true = refl
and_true false = refl

and_false : (b : Bool) → (b && false) ≡ false
and_false true = refl
and_false false = refl

or_true : (b : Bool) → (b || true) ≡ true
or_true true = refl
or_true false = refl

or_false : (b : Bool) → (b || false) ≡ b
or_false true = refl
or_false false = refl

-- ---- where the first misplaced one begins

-- there are some
abbrev some : List ChunkMeaning → Bool
some [] = false
some (m ∷ ms) = true

some-more : (ms : List ChunkMeaning) (m : ChunkMeaning) → some (ms ++ m ∷ []) ≡ true
some-more [] m = refl
some-more (n ∷ ms) m = refl

-- among chunks, with so many bytes behind them
abbrev pub found_among : List ChunkMeaning → (behind : ℕ) → Option ℕ
found_among [] behind = None
found_among (m ∷ ms) behind = if stands_alone m && (some ms || nat_lt 0 behind) then Some 0 else misplaced_behind (size_of_chunk m) ms

all_found : (ms : List ChunkMeaning) → found_among ms 0 ≡ first_misplaced ms
all_found [] = refl
all_found (m ∷ []) = rw (and_false (stands_alone m)) refl
all_found (m ∷ n ∷ ms) = rw (and_true (stands_alone m)) refl

-- one with others before it
misplaced_told : (m : ChunkMeaning) (before behind : ℕ) → IsReadable m → 0 < before → is_misplaced (kind_of m) before behind ≡ never_follows m
misplaced_told m before behind readable some =
    rw (lt-ltb 0 before some, and_true (is_alone (kind_of m)), and_true (kind_of m == 10)) (sym (follows_told m readable))

-- the first one
first_told : (m : ChunkMeaning) (behind : ℕ) → IsReadable m → is_misplaced (kind_of m) 0 behind ≡ (stands_alone m && nat_lt 0 behind)
first_told m behind readable =
    rw (and_false (kind_of m == 10), or_false (is_alone (kind_of m) && nat_lt 0 behind), alone_told m readable) refl

step_by : (t : Bool) (x kind before behind : ℕ) (old new : Option ℕ) → new ≡ found_with old kind before behind
    → (if t then Some x else new) ≡ found_with (if t then Some x else old) kind before behind
step_by true x kind before behind old new e = refl
step_by false x kind before behind old new e = e

-- one more behind those that follow the first
behind_step : (ms : List ChunkMeaning) (rest : List ℕ) (from before behind : ℕ) (m : ChunkMeaning) → ReadsEach rest ms → before ≡ from + length rest → 0 < from → IsReadable m
    → misplaced_behind from (ms ++ m ∷ []) ≡ found_with (misplaced_behind from ms) (kind_of m) before behind
behind_step [] rest from before behind m e at some readable =
    let here : before ≡ from = omega (arith, ap length e, at) in
    rw (here, misplaced_told m from behind readable some) refl
behind_step (n ∷ ms) rest from before behind m (chunk, more, joined, reads, others) at some readable =
    let size = length-chunk chunk n reads in
    let both = ap length joined ∙ length-append chunk more in
    step_by (never_follows n) from (kind_of m) before behind (misplaced_behind (from + size_of_chunk n) ms) (misplaced_behind (from + size_of_chunk n) (ms ++ m ∷ []))
    (behind_step ms more (from + size_of_chunk n) before behind m others (omega arith) (omega arith) readable)

-- one more behind all
found_step : (ms : List ChunkMeaning) (whole chunk : List ℕ) (m : ChunkMeaning) (behind : ℕ) → ReadsEach whole ms → ReadsChunk chunk m
    → found_among (ms ++ m ∷ []) behind ≡ found_with (found_among ms (length chunk + behind)) (kind_of m) (length whole) behind
found_step [] whole chunk m behind e reads = rw (e, first_told m behind reads.readable) refl
found_step (n ∷ ms) whole chunk m behind (first, more, joined, here, others) reads =
    let size = length-chunk first n here in
    let some_first = chunk-some first n here in
    let some_chunk = chunk-some chunk m reads in
    let both = ap length joined ∙ length-append first more in
    rw (some-more ms m, lt-ltb 0 (length chunk + behind) (omega arith), or_true (some ms), and_true (stands_alone n))
    (step_by (stands_alone n) 0 (kind_of m) (length whole) behind (misplaced_behind (size_of_chunk n) ms) (misplaced_behind (size_of_chunk n) (ms ++ m ∷ []))
    (behind_step ms more (size_of_chunk n) (length whole) behind m others (omega arith) (omega arith) reads.readable))

-- ---- the walk

-- whole chunks stand before what is left, and the first misplaced one among them is found
pub record IsTestedUpTo (bytes rest : List ℕ) (found : Option ℕ) : Type 0 where
  pub read : IsReadUpTo bytes rest
  pub place : found ≡ found_among read.chunks (length rest)

pub tested_none : (bytes : List ℕ) → IsTestedUpTo bytes bytes None
unfolding read_none
tested_none bytes = record { read = read_none bytes; place = refl }

pub tested_more : (bytes rest after : List ℕ) (m : ChunkMeaning) (found : Option ℕ) (before : ℕ) → IsTestedUpTo bytes rest found → BeginsWith rest m after → before ≡ length bytes - length rest
    → IsTestedUpTo bytes after (found_with found (slice_index rest 0) before (length after))
unfolding read_more
tested_more bytes rest after m found before t first at =
    let up = t.read in
    let kind : slice_index rest 0 ≡ kind_of m = ap (λ (xs : List ℕ). slice_index xs 0) (first.joined ∙ ap (λ (xs : List ℕ). xs ++ after) first.reads.layout) in
    let size : length rest ≡ length first.chunk + length after = ap length first.joined ∙ length-append first.chunk after in
    let both = ap length up.joined ∙ length-append up.whole rest in
    let here : before ≡ length up.whole = omega arith in
    let same : found ≡ found_among up.chunks (length first.chunk + length after) = t.place ∙ ap (λ (n : ℕ). found_among up.chunks n) size in
    record {
      read = read_more bytes rest after m up first;
      place = rw (kind, here, same) (sym (found_step up.chunks up.whole first.chunk m (length after) up.reads first.reads));
    }

-- all of the bytes
pub tested_all : (bytes rest : List ℕ) (found : Option ℕ) → IsTestedUpTo bytes rest found → rest ≡ []
    → (ms : List ChunkMeaning) × ReadsEach bytes ms × (first_misplaced ms ≡ found)
unfolding read_all
tested_all bytes rest found t e =
    let all = read_all bytes rest t.read e in
    (all.0, all.1, sym (t.place ∙ ap (λ (xs : List ℕ). found_among t.read.chunks (length xs)) e ∙ all_found t.read.chunks))
