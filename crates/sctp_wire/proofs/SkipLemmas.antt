-- The entries of a FORWARD are read in one way, whatever their reserved bits are, and what is written for them reads back.
use Rattle.std.proofs.Common.{◌≡◌, ℕ, zero, suc, ◌+◌, ◌*◌, ◌/◌, ◌%◌, ◌<◌, ◌≤◌, ◌^◌, Bool, true, false, List, [], ◌∷◌, ◌++◌, length, drop, refl, sym, ap, ◌∙◌, append_assoc, arith, length-append, length-drop}
use Rattle.std.specs.Prelude.{if◌then◌else◌, ◌==◌, ◌&&◌, nat_lt}
use Rattle.std.specs.List.{flat_map, AllByRecursion}
use Rattle.std.proofs.lemmas.List.{append-nil, drop-drop}
use Rattle.std.proofs.lemmas.Grind.{common_steps}
use Rattle.sctp_model.specs.wire.Chunk.{SkipMeaning}
use Rattle.sctp_model.specs.numbers.Numbers.{u16_bytes, u32_bytes, u16_at, u32_at, AreBytes}
use Rattle.sctp_wire.specs.declared.skips.SkipForm.{SkipForm}
use Rattle.sctp_wire.specs.declared.skips.SkipForm.TheVariants.{Narrow, Wide}
use Rattle.sctp_wire.specs.Skips.{skip_size, skip_laid, skip_bytes, skip_at, IsSkip, ReadsSkips, skips_in, are_reserved_zero}
use Rattle.sctp_wire.proofs.NumberLemmas.{u16_at-bytes, u32_at-bytes, bytes-u16_at, bytes-u32_at, u16_at-lt, u32_at-lt, AreBytes-drop}
use Rattle.sctp_wire.proofs.ItemLemmas.{all-items_in, length-items_in}

-- ---- one entry

pub length-skip_laid : (form : SkipForm) (reserved : ℕ) (s : SkipMeaning) → length (skip_laid form reserved s) ≡ skip_size form
unfolding u16_bytes u32_bytes
length-skip_laid Narrow reserved s = refl
length-skip_laid Wide reserved s = refl

drop-skip_laid : (form : SkipForm) (reserved : ℕ) (s : SkipMeaning) (rest : List ℕ) → drop (skip_size form) (skip_laid form reserved s ++ rest) ≡ rest
unfolding u16_bytes u32_bytes
drop-skip_laid Narrow reserved s rest = refl
drop-skip_laid Wide reserved s rest = refl

-- where the fields stand
narrow_split : (s : SkipMeaning) (rest : List ℕ) → skip_laid Narrow 0 s ++ rest ≡ u16_bytes s.stream ++ (u16_bytes s.number ++ rest)
unfolding u16_bytes
narrow_split s rest = refl

narrow_2 : (s : SkipMeaning) (rest : List ℕ) → drop 2 (skip_laid Narrow 0 s ++ rest) ≡ u16_bytes s.number ++ rest
unfolding u16_bytes
narrow_2 s rest = refl

wide_split : (r : ℕ) (s : SkipMeaning) (rest : List ℕ)
    → skip_laid Wide r s ++ rest ≡ u16_bytes s.stream ++ (u16_bytes (2 * r + (if s.unordered then 1 else 0)) ++ (u32_bytes s.number ++ rest))
unfolding u16_bytes u32_bytes
wide_split r s rest = refl

wide_2 : (r : ℕ) (s : SkipMeaning) (rest : List ℕ)
    → drop 2 (skip_laid Wide r s ++ rest) ≡ u16_bytes (2 * r + (if s.unordered then 1 else 0)) ++ (u32_bytes s.number ++ rest)
unfolding u16_bytes u32_bytes
wide_2 r s rest = refl

wide_4 : (r : ℕ) (s : SkipMeaning) (rest : List ℕ) → drop 4 (skip_laid Wide r s ++ rest) ≡ u32_bytes s.number ++ rest
unfolding u16_bytes u32_bytes
wide_4 r s rest = refl

-- the lowest bit is U
lowest : (r : ℕ) (u : Bool) → ((2 * r + (if u then 1 else 0)) % 2 == 1) ≡ u
lowest r true = let odd : (2 * r + 1) % 2 ≡ 1 = omega arith in rw odd refl
lowest r false = let even : (2 * r + 0) % 2 ≡ 0 = omega arith in rw even refl

flags_low : (r : ℕ) (u : Bool) → r < 2 ^ 15 → 2 * r + (if u then 1 else 0) < 2 ^ 16
flags_low r true low = omega arith
flags_low r false low = omega arith

skip_at-laid : (form : SkipForm) (reserved : ℕ) (s : SkipMeaning) (rest : List ℕ) → reserved < 2 ^ 15 → IsSkip form s → skip_at form (skip_laid form reserved s ++ rest) ≡ s
skip_at-laid Narrow reserved s rest low h =
    let stream : u16_at (skip_laid Narrow 0 s ++ rest) ≡ s.stream = ap u16_at (narrow_split s rest) ∙ u16_at-bytes s.stream (u16_bytes s.number ++ rest) h.0 in
    let number : u16_at (drop 2 (skip_laid Narrow 0 s ++ rest)) ≡ s.number = ap u16_at (narrow_2 s rest) ∙ u16_at-bytes s.number rest h.1 in
    rw (stream, number, ← h.2) refl
skip_at-laid Wide reserved s rest low h =
    let flags = 2 * reserved + (if s.unordered then 1 else 0) in
    let stream : u16_at (skip_laid Wide reserved s ++ rest) ≡ s.stream = ap u16_at (wide_split reserved s rest) ∙ u16_at-bytes s.stream (u16_bytes flags ++ (u32_bytes s.number ++ rest)) h.0 in
    let between : u16_at (drop 2 (skip_laid Wide reserved s ++ rest)) ≡ flags = ap u16_at (wide_2 reserved s rest) ∙ u16_at-bytes flags (u32_bytes s.number ++ rest) (flags_low reserved s.unordered low) in
    let number : u32_at (drop 4 (skip_laid Wide reserved s ++ rest)) ≡ s.number = ap u32_at (wide_4 reserved s rest) ∙ u32_at-bytes s.number rest h.1 in
    rw (stream, between, number, lowest reserved s.unordered) refl

-- the reserved bits of the entry in the first bytes
abbrev reserved_at : SkipForm → List ℕ → ℕ
reserved_at Narrow bytes = 0
reserved_at Wide bytes = u16_at (drop 2 bytes) / 2

halves : (n : ℕ) → 2 * (n / 2) + (if n % 2 == 1 then 1 else 0) ≡ n
halves n = grind (arith, common_steps)

skip_laid-at : (form : SkipForm) (bytes : List ℕ) → AreBytes bytes → skip_size form ≤ length bytes
    → bytes ≡ skip_laid form (reserved_at form bytes) (skip_at form bytes) ++ drop (skip_size form) bytes
skip_laid-at Narrow bytes fits long =
    let at_2 = bytes-u16_at (drop 2 bytes) (AreBytes-drop 2 bytes fits) (omega (arith, length-drop 2 bytes)) in
    let at_0 = bytes-u16_at bytes fits (omega arith) in
    sym (append_assoc (u16_bytes (u16_at bytes)) (u16_bytes (u16_at (drop 2 bytes))) (drop 4 bytes) ∙ rw (← drop-drop 2 2 bytes, at_2) at_0)
skip_laid-at Wide bytes fits long =
    let at_4 = bytes-u32_at (drop 4 bytes) (AreBytes-drop 4 bytes fits) (omega (arith, length-drop 4 bytes)) in
    let at_2 = bytes-u16_at (drop 2 bytes) (AreBytes-drop 2 bytes fits) (omega (arith, length-drop 2 bytes)) in
    let at_0 = bytes-u16_at bytes fits (omega arith) in
    sym (rw (halves (u16_at (drop 2 bytes)))
    (append_assoc (u16_bytes (u16_at bytes)) (u16_bytes (u16_at (drop 2 bytes)) ++ u32_bytes (u32_at (drop 4 bytes))) (drop 8 bytes)
    ∙ rw (append_assoc (u16_bytes (u16_at (drop 2 bytes))) (u32_bytes (u32_at (drop 4 bytes))) (drop 8 bytes), ← drop-drop 4 4 bytes, at_4, ← drop-drop 2 2 bytes, at_2) at_0))

reserved-low : (form : SkipForm) (bytes : List ℕ) → AreBytes bytes → reserved_at form bytes < 2 ^ 15
reserved-low Narrow bytes fits = omega arith
reserved-low Wide bytes fits = omega (arith, u16_at-lt (drop 2 bytes) (AreBytes-drop 2 bytes fits))

IsSkip-at : (form : SkipForm) (bytes : List ℕ) → AreBytes bytes → IsSkip form (skip_at form bytes)
IsSkip-at Narrow bytes fits = (u16_at-lt bytes fits, u16_at-lt (drop 2 bytes) (AreBytes-drop 2 bytes fits), refl)
IsSkip-at Wide bytes fits = (u16_at-lt bytes fits, u32_at-lt (drop 4 bytes) (AreBytes-drop 4 bytes fits))

-- ---- many

pub skips_in-none : (form : SkipForm) (bytes : List ℕ) → length bytes < skip_size form → skips_in form bytes ≡ []
unfolding skips_in
skips_in-none Narrow bytes short = let none : length bytes / 4 ≡ 0 = omega arith in rw none refl
skips_in-none Wide bytes short = let none : length bytes / 8 ≡ 0 = omega arith in rw none refl

pub skips_in-some : (form : SkipForm) (bytes : List ℕ) → skip_size form ≤ length bytes → skips_in form bytes ≡ skip_at form bytes ∷ skips_in form (drop (skip_size form) bytes)
unfolding skips_in
skips_in-some Narrow bytes long =
    let count : length bytes / 4 ≡ suc (length (drop 4 bytes) / 4) = omega (arith, length-drop 4 bytes) in rw count refl
skips_in-some Wide bytes long =
    let count : length bytes / 8 ≡ suc (length (drop 8 bytes) / 8) = omega (arith, length-drop 8 bytes) in rw count refl

pub length-skips_in : (form : SkipForm) (bytes : List ℕ) → length (skips_in form bytes) ≡ length bytes / skip_size form
unfolding skips_in
length-skips_in form bytes = length-items_in (skip_at form) (skip_size form) (length bytes / skip_size form) bytes

pub all-skips_in : (form : SkipForm) (bytes : List ℕ) → AreBytes bytes → AllByRecursion (IsSkip form) (skips_in form bytes)
unfolding skips_in
all-skips_in form bytes fits =
    all-items_in (skip_at form) (IsSkip form) (skip_size form) (IsSkip-at form) (length bytes / skip_size form) bytes fits

skip_some : (form : SkipForm) → 0 < skip_size form
skip_some Narrow = omega arith
skip_some Wide = omega arith

-- entries read in one way
pub skips_in-reads : (form : SkipForm) (ss : List SkipMeaning) (bytes : List ℕ) → AllByRecursion (IsSkip form) ss → ReadsSkips form bytes ss → skips_in form bytes ≡ ss
skips_in-reads form [] bytes all e = ap (skips_in form) e ∙ skips_in-none form [] (skip_some form)
skips_in-reads form (s ∷ ss) bytes all (reserved, (rest, (low, joined, more))) =
    let laid = skip_laid form reserved s in
    let long : skip_size form ≤ length (laid ++ rest) = omega (arith, length-append laid rest, length-skip_laid form reserved s) in
    ap (skips_in form) joined ∙ skips_in-some form (laid ++ rest) long
    ∙ rw (skip_at-laid form reserved s rest low all.0, drop-skip_laid form reserved s rest, skips_in-reads form ss rest all.1 more) refl

whole_left : (form : SkipForm) (n : ℕ) → n % skip_size form ≡ 0 → 0 < n → skip_size form ≤ n
whole_left Narrow n whole some = omega arith
whole_left Wide n whole some = omega arith

whole_after : (form : SkipForm) (n m : ℕ) → n % skip_size form ≡ 0 → n ≡ skip_size form + m → m % skip_size form ≡ 0
whole_after Narrow n m whole e = omega arith
whole_after Wide n m whole e = omega arith

-- bytes of whole entries read as these
pub reads-skips_in : (form : SkipForm) (most : ℕ) (bytes : List ℕ) → length bytes ≤ most → AreBytes bytes → length bytes % skip_size form ≡ 0 → ReadsSkips form bytes (skips_in form bytes)
reads-skips_in form most [] short fits whole = rw (skips_in-none form [] (skip_some form)) refl
reads-skips_in form zero (b ∷ bs) short fits whole = absurd (omega arith)
reads-skips_in form (suc most) (b ∷ bs) short fits whole =
    let bytes = b ∷ bs in
    let size = skip_size form in
    let long = whole_left form (length bytes) whole (omega arith) in
    let less = length-drop size bytes in
    let some = skip_some form in
    let again = reads-skips_in form most (drop size bytes) (omega arith) (AreBytes-drop size bytes fits) (whole_after form (length bytes) (length (drop size bytes)) whole (omega arith)) in
    rw (skips_in-some form bytes long) (reserved_at form bytes, (drop size bytes, (reserved-low form bytes fits, skip_laid-at form bytes fits long, again)))

-- what is written for entries reads as these
pub reads-skip_bytes : (form : SkipForm) (ss : List SkipMeaning) → ReadsSkips form (flat_map (skip_bytes form) ss) ss
reads-skip_bytes form [] = refl
reads-skip_bytes form (s ∷ ss) = (0, (flat_map (skip_bytes form) ss, (omega arith, refl, reads-skip_bytes form ss)))

pub length-reads_skips : (form : SkipForm) (ss : List SkipMeaning) (bytes : List ℕ) → ReadsSkips form bytes ss → length bytes ≡ skip_size form * length ss
length-reads_skips Narrow [] bytes e = ap length e
length-reads_skips Wide [] bytes e = ap length e
length-reads_skips Narrow (s ∷ ss) bytes (r, (rest, (low, e, more))) =
    omega (arith, ap length e, length-append (skip_laid Narrow r s) rest, length-skip_laid Narrow r s, length-reads_skips Narrow ss rest more)
length-reads_skips Wide (s ∷ ss) bytes (r, (rest, (low, e, more))) =
    omega (arith, ap length e, length-append (skip_laid Wide r s) rest, length-skip_laid Wide r s, length-reads_skips Wide ss rest more)

-- one entry more
reads_more : (form : SkipForm) (ss : List SkipMeaning) (bytes : List ℕ) (s : SkipMeaning) → ReadsSkips form bytes ss → ReadsSkips form (bytes ++ skip_bytes form s) (ss ++ s ∷ [])
reads_more form [] bytes s e = (0, ([], (omega arith, rw e (sym (append-nil (skip_bytes form s))), refl)))
reads_more form (x ∷ ss) bytes s (r, (rest, (low, e, more))) =
    (r, (rest ++ skip_bytes form s, (low, ap (λ (xs : List ℕ). xs ++ skip_bytes form s) e ∙ append_assoc (skip_laid form r x) rest (skip_bytes form s), reads_more form ss rest s more)))

all_more : (P : SkipMeaning → Type 0) (ss : List SkipMeaning) (s : SkipMeaning) → AllByRecursion P ss → P s → AllByRecursion P (ss ++ s ∷ [])
all_more P [] s all p = (p, tt)
all_more P (x ∷ ss) s all p = (all.0, all_more P ss s all.1 p)

pub skips_in-push : (form : SkipForm) (bytes : List ℕ) (s : SkipMeaning) → AreBytes bytes → IsSkip form s → length bytes % skip_size form ≡ 0
    → skips_in form (bytes ++ skip_bytes form s) ≡ skips_in form bytes ++ s ∷ []
skips_in-push form bytes s fits one whole =
    skips_in-reads form (skips_in form bytes ++ s ∷ []) (bytes ++ skip_bytes form s) (all_more (IsSkip form) (skips_in form bytes) s (all-skips_in form bytes fits) one)
    (reads_more form (skips_in form bytes) bytes s (reads-skips_in form (length bytes) bytes (omega arith) fits whole))

-- ---- reserved bits

pub zero-none : (bytes : List ℕ) → length bytes < 8 → are_reserved_zero Wide bytes ≡ true
unfolding are_reserved_zero
zero-none bytes short = let none : length bytes / 8 ≡ 0 = omega arith in rw none refl

pub zero-some : (bytes : List ℕ) → 8 ≤ length bytes → are_reserved_zero Wide bytes ≡ (nat_lt (u16_at (drop 2 bytes)) 2 && are_reserved_zero Wide (drop 8 bytes))
unfolding are_reserved_zero
zero-some bytes long =
    let count : length bytes / 8 ≡ suc (length (drop 8 bytes) / 8) = omega (arith, length-drop 8 bytes) in rw count refl

pub zero-narrow : (bytes : List ℕ) → are_reserved_zero Narrow bytes ≡ true
unfolding are_reserved_zero
zero-narrow bytes = refl
