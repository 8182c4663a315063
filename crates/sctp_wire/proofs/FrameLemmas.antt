-- The first chunk of bytes: if its frame is right it is read, and what is read is a chunk; else it is wrong by the first check that fails.
use Rattle.std.proofs.Common.{◌≡◌, ℕ, suc, ◌+◌, ◌-◌, ◌<◌, ◌≤◌, ◌^◌, inl, inr, Bool, true, false, List, [], ◌∷◌, ◌++◌, length, take, drop, refl, sym, ap, ◌∙◌, subst, append_assoc, arith, length-append, length-drop, ⊎_elim, Ok, Err}
use Rattle.std.specs.Prelude.{slice_index}
use Rattle.std.proofs.lemmas.List.{drop-drop, take-append-drop, take_at, drop_at, length-take-le}
use Rattle.std.proofs.lemmas.Bool.{cases_lt, lt-ltb, le-ltb}
use Rattle.sctp_model.specs.wire.Chunk.{ChunkMeaning, kind_of, chunk_length, padded, padding_after}
use Rattle.sctp_model.specs.numbers.Numbers.{u16_bytes, AreBytes}
use Rattle.sctp_wire.specs.declared.fault.Reason.{Reason}
use Rattle.sctp_wire.specs.declared.fault.Reason.TheVariants as reason
use Rattle.sctp_wire.specs.Layouts.{ReadsFlags, ReadsValue, has_layout, has_list, IsReadable}
use Rattle.sctp_wire.specs.Reads.{header, ReadsChunk}
use Rattle.sctp_wire.specs.FirstFault.{stated_length, value_at, HasHeader, IsTooSmall, IsUnpadded, IsWrong}
use Rattle.sctp_wire.specs.Reading.{body_at, frame_at, framed, chunk_at}
use Rattle.sctp_wire.specs.inner.Frame.{IsWhole}
use Rattle.sctp_wire.proofs.NumberLemmas.{u16_at-bytes, length-u16, bytes-u16_at, u16_at-lt, AreBytes-drop, AreBytes-take}
use Rattle.sctp_wire.proofs.BodyLemmas.{body_of, body_read, length-value}

-- ---- the checks of the frame, in order

frame_at-whole : (bytes : List ℕ) → IsWhole bytes → frame_at bytes ≡ Ok (stated_length bytes)
unfolding frame_at
frame_at-whole bytes w =
    rw (le-ltb (length bytes) 4 w.head, le-ltb (stated_length bytes) 4 w.stated, le-ltb (length bytes) (stated_length bytes) w.fits, le-ltb (length bytes) (padded (stated_length bytes)) w.filled) refl

frame_at-short : (bytes : List ℕ) → length bytes < 4 → frame_at bytes ≡ Err reason.IsCut
unfolding frame_at
frame_at-short bytes h = rw (lt-ltb (length bytes) 4 h) refl

frame_at-small : (bytes : List ℕ) → IsTooSmall bytes → frame_at bytes ≡ Err reason.HasShortLength
unfolding frame_at
frame_at-small bytes h = rw (le-ltb (length bytes) 4 h.0, lt-ltb (stated_length bytes) 4 h.1) refl

frame_at-cut : (bytes : List ℕ) → HasHeader bytes → length bytes < stated_length bytes → frame_at bytes ≡ Err reason.IsCut
unfolding frame_at
frame_at-cut bytes h cut =
    rw (le-ltb (length bytes) 4 h.0, le-ltb (stated_length bytes) 4 h.1, lt-ltb (length bytes) (stated_length bytes) cut) refl

frame_at-unpadded : (bytes : List ℕ) → IsUnpadded bytes → frame_at bytes ≡ Err reason.LacksPadding
unfolding frame_at
frame_at-unpadded bytes h =
    rw (le-ltb (length bytes) 4 h.0.0, le-ltb (stated_length bytes) 4 h.0.1, le-ltb (length bytes) (stated_length bytes) h.1, lt-ltb (length bytes) (padded (stated_length bytes)) h.2) refl

-- ---- what a first chunk can be

-- of its layout, with a list where it has one
pub record IsShaped (bytes : List ℕ) : Type 0 where
  pub whole : IsWhole bytes
  pub laid : has_layout (slice_index bytes 0) (value_at bytes) ≡ true
  pub list : has_list (slice_index bytes 0) (value_at bytes) ≡ true

whole_from_padded : (bytes : List ℕ) → HasHeader bytes → padded (stated_length bytes) ≤ length bytes → IsWhole bytes
whole_from_padded bytes h filled = record { head = h.0; stated = h.1; fits = omega arith; filled = filled }

-- each kind of wrong first chunk is told
pub chunk_at-wrong : (bytes : List ℕ) (why : Reason) → IsWrong why bytes → chunk_at bytes ≡ Err why
unfolding chunk_at
chunk_at-wrong bytes reason.IsCut (inl h) = ap (framed bytes) (frame_at-short bytes h.1)
chunk_at-wrong bytes reason.IsCut (inr h) = ap (framed bytes) (frame_at-cut bytes h.0 h.1)
chunk_at-wrong bytes reason.HasShortLength h = ap (framed bytes) (frame_at-small bytes h)
chunk_at-wrong bytes reason.LacksPadding h = ap (framed bytes) (frame_at-unpadded bytes h)
chunk_at-wrong bytes reason.HasOtherBody h =
    ap (framed bytes) (frame_at-whole bytes (whole_from_padded bytes h.0 h.1)) ∙ rw h.2 refl
chunk_at-wrong bytes reason.HasNoList h =
    ap (framed bytes) (frame_at-whole bytes (whole_from_padded bytes h.0 h.1)) ∙ rw (h.2, h.3) refl

pub chunk_at-shaped : (bytes : List ℕ) → IsShaped bytes
    → chunk_at bytes ≡ Ok (body_at (slice_index bytes 0) (slice_index bytes 1) (value_at bytes), drop (padded (stated_length bytes)) bytes)
unfolding chunk_at
chunk_at-shaped bytes s = ap (framed bytes) (frame_at-whole bytes s.whole) ∙ rw (s.laid, s.list) refl

-- wrong in some way, or right
pub data FirstChunk (bytes : List ℕ) : Type 0 where
  wrong : (why : Reason) → IsWrong why bytes → FirstChunk bytes
  right : IsShaped bytes → FirstChunk bytes

listed_by : (bytes : List ℕ) → IsWhole bytes → has_layout (slice_index bytes 0) (value_at bytes) ≡ true → (b : Bool) → has_list (slice_index bytes 0) (value_at bytes) ≡ b → FirstChunk bytes
listed_by bytes w l true e = right (record { whole = w; laid = l; list = e })
listed_by bytes w l false e = wrong reason.HasNoList ((w.head, w.stated), w.filled, l, e)

laid_by : (bytes : List ℕ) → IsWhole bytes → (b : Bool) → has_layout (slice_index bytes 0) (value_at bytes) ≡ b → FirstChunk bytes
laid_by bytes w true e = listed_by bytes w e _ refl
laid_by bytes w false e = wrong reason.HasOtherBody ((w.head, w.stated), w.filled, e)

pub first_chunk_is : (bytes : List ℕ) → 0 < length bytes → FirstChunk bytes
first_chunk_is bytes some =
    ⊎_elim (λ (short : length bytes < 4). wrong reason.IsCut (inl (some, short)))
    (λ (head : 4 ≤ length bytes). ⊎_elim (λ (low : stated_length bytes < 4). wrong reason.HasShortLength (head, low))
    (λ (stated : 4 ≤ stated_length bytes). ⊎_elim (λ (past : length bytes < stated_length bytes). wrong reason.IsCut (inr ((head, stated), past)))
    (λ (fits : stated_length bytes ≤ length bytes). ⊎_elim (λ (bare : length bytes < padded (stated_length bytes)). wrong reason.LacksPadding ((head, stated), fits, bare))
    (λ (filled : padded (stated_length bytes) ≤ length bytes). laid_by bytes (record { head = head; stated = stated; fits = fits; filled = filled }) _ refl)
    (cases_lt (length bytes) (padded (stated_length bytes))))
    (cases_lt (length bytes) (stated_length bytes)))
    (cases_lt (stated_length bytes) 4))
    (cases_lt (length bytes) 4)

-- what is told of the first chunk is wrong with it
wrong_by : (bytes : List ℕ) (why : Reason) → FirstChunk bytes → chunk_at bytes ≡ Err why → IsWrong why bytes
wrong_by bytes why (wrong other h) e =
    let same : other ≡ why = cc (chunk_at-wrong bytes other h) in subst (λ (w : Reason). IsWrong w bytes) same h
wrong_by bytes why (right s) e = cc (chunk_at-shaped bytes s)

pub wrong_first : (bytes : List ℕ) (why : Reason) → 0 < length bytes → chunk_at bytes ≡ Err why → IsWrong why bytes
wrong_first bytes why some e = wrong_by bytes why (first_chunk_is bytes some) e

-- ---- a chunk that is read

-- bytes that begin with a chunk
pub record BeginsWith (bytes : List ℕ) (m : ChunkMeaning) (rest : List ℕ) : Type 0 where
  pub chunk : List ℕ
  pub joined : bytes ≡ chunk ++ rest
  pub reads : ReadsChunk chunk m

-- a header in front of bytes
header_split : (bytes : List ℕ) → AreBytes bytes → 4 ≤ length bytes
    → bytes ≡ header (slice_index bytes 0) (slice_index bytes 1) (stated_length bytes) ++ drop 4 bytes
header_split [] fits long = absurd (omega arith)
header_split (a ∷ []) fits long = absurd (omega arith)
header_split (a ∷ b ∷ bytes) fits long =
    ap (λ (xs : List ℕ). a ∷ b ∷ xs) (sym (bytes-u16_at bytes (λ i. fits (suc (suc i))) (omega arith)))

-- three parts of a list
three_parts : (i j : ℕ) (xs : List ℕ) → xs ≡ take i xs ++ (take j (drop i xs) ++ drop j (drop i xs))
three_parts i j xs = rw (take-append-drop j (drop i xs), take-append-drop i xs) refl

begins_shaped : (bytes : List ℕ) → AreBytes bytes → IsShaped bytes
    → BeginsWith bytes (body_at (slice_index bytes 0) (slice_index bytes 1) (value_at bytes)) (drop (padded (stated_length bytes)) bytes)
begins_shaped bytes fits s =
    let size = stated_length bytes in
    let kind = slice_index bytes 0 in
    let flags = slice_index bytes 1 in
    let value = value_at bytes in
    let tail = drop 4 bytes in
    let m = body_at kind flags value in
    let padding = take (padded size - size) (drop (size - 4) tail) in
    let bound : size < 2 ^ 16 = u16_at-lt (drop 2 bytes) (AreBytes-drop 2 bytes fits) in
    let head = s.whole.head in
    let stated = s.whole.stated in
    let within = s.whole.fits in
    let filled = s.whole.filled in
    let tail_length = length-drop 4 bytes in
    let value_length : length value ≡ size - 4 = length-take-le (size - 4) tail (omega arith) in
    let behind = length-drop (size - 4) tail in
    let padding_length : length padding ≡ padded size - size = length-take-le (padded size - size) (drop (size - 4) tail) (omega arith) in
    let body = body_of kind flags value (AreBytes-take (size - 4) tail (AreBytes-drop 4 bytes fits)) (fits 0) (fits 1) s.laid s.list in
    let same_size : chunk_length m ≡ size = sym (length-value m value body.value) ∙ omega arith in
    let rest_at : drop (padded size - size) (drop (size - 4) tail) ≡ drop (padded size) bytes =
    drop-drop (padded size - size) (size - 4) tail ∙ drop-drop (size - 4 + (padded size - size)) 4 bytes ∙ ap (λ (n : ℕ). drop n bytes) (omega arith) in
    let parts : bytes ≡ header kind flags size ++ (value ++ (padding ++ drop (padded size) bytes)) =
    header_split bytes fits head ∙ ap (λ (xs : List ℕ). header kind flags size ++ xs) (three_parts (size - 4) (padded size - size) tail ∙ ap (λ (xs : List ℕ). value ++ (padding ++ xs)) rest_at) in
    record {
      chunk = header kind flags size ++ (value ++ padding);
      joined = parts ∙ sym (append_assoc (header kind flags size) (value ++ padding) (drop (padded size) bytes) ∙ ap (λ (xs : List ℕ). header kind flags size ++ xs) (append_assoc value padding (drop (padded size) bytes)));
      reads = record {
        flags = flags;
        value = value;
        padding = padding;
        layout = rw (body.kind, same_size) refl;
        flagged = body.flags;
        valued = body.value;
        filled = rw same_size padding_length;
        readable = record { fields = body.fields; length = rw same_size bound };
      };
    }

begins_by : (bytes : List ℕ) (m : ChunkMeaning) (rest : List ℕ) → AreBytes bytes → FirstChunk bytes → chunk_at bytes ≡ Ok (m, rest) → BeginsWith bytes m rest
begins_by bytes m rest fits (wrong why h) e = cc (chunk_at-wrong bytes why h)
begins_by bytes m rest fits (right s) e =
    let found : ChunkMeaning × List ℕ = (body_at (slice_index bytes 0) (slice_index bytes 1) (value_at bytes), drop (padded (stated_length bytes)) bytes) in
    let wanted : ChunkMeaning × List ℕ = (m, rest) in
    let same : found ≡ wanted = cc (chunk_at-shaped bytes s) in
    subst (λ (x : ChunkMeaning × List ℕ). BeginsWith bytes x.0 x.1) same (begins_shaped bytes fits s)

pub begins_first : (bytes : List ℕ) (m : ChunkMeaning) (rest : List ℕ) → AreBytes bytes → 0 < length bytes → chunk_at bytes ≡ Ok (m, rest) → BeginsWith bytes m rest
begins_first bytes m rest fits some e = begins_by bytes m rest fits (first_chunk_is bytes some) e

-- ---- what is read of a chunk

-- a chunk's bytes with others behind them
laid : ℕ → ℕ → ℕ → List ℕ → List ℕ → List ℕ → List ℕ
laid kind flags size value padding rest = header kind flags size ++ (value ++ (padding ++ rest))

stated-laid : (kind flags size : ℕ) (value padding rest : List ℕ) → size < 2 ^ 16 → stated_length (laid kind flags size value padding rest) ≡ size
unfolding laid
stated-laid kind flags size value padding rest low = u16_at-bytes size (value ++ (padding ++ rest)) low

kind-laid : (kind flags size : ℕ) (value padding rest : List ℕ) → slice_index (laid kind flags size value padding rest) 0 ≡ kind
unfolding laid
kind-laid kind flags size value padding rest = refl

flags-laid : (kind flags size : ℕ) (value padding rest : List ℕ) → slice_index (laid kind flags size value padding rest) 1 ≡ flags
unfolding laid
flags-laid kind flags size value padding rest = refl

drop-laid : (kind flags size : ℕ) (value padding rest : List ℕ) → drop 4 (laid kind flags size value padding rest) ≡ value ++ (padding ++ rest)
unfolding laid u16_bytes
drop-laid kind flags size value padding rest = refl

length-laid : (kind flags size : ℕ) (value padding rest : List ℕ) → length (laid kind flags size value padding rest) ≡ 4 + length value + length padding + length rest
unfolding laid
length-laid kind flags size value padding rest =
    omega (arith, length-append (u16_bytes size) (value ++ (padding ++ rest)), length-u16 size, length-append value (padding ++ rest), length-append padding rest)

chunk_at-laid : (m : ChunkMeaning) (flags : ℕ) (value padding rest : List ℕ) → ReadsFlags flags m → ReadsValue value m → length padding ≡ padding_after (chunk_length m) → IsReadable m
    → chunk_at (laid (kind_of m) flags (chunk_length m) value padding rest) ≡ Ok (m, rest)
chunk_at-laid m flags value padding rest flagged valued filled readable =
    let size = chunk_length m in
    let bytes = laid (kind_of m) flags size value padding rest in
    let own = length-value m value valued in
    let low = readable.length in
    let stated = stated-laid (kind_of m) flags size value padding rest low in
    let whole_length = length-laid (kind_of m) flags size value padding rest in
    let tail = drop-laid (kind_of m) flags size value padding rest in
    let is_value : value_at bytes ≡ value = rw (tail, stated) (take_at value (padding ++ rest) (size - 4) (omega arith)) in
    let after : drop (padded (stated_length bytes)) bytes ≡ rest =
    ap (λ (n : ℕ). drop n bytes) (rw stated (omega arith)) ∙ sym (drop-drop (length value + length padding) 4 bytes) ∙ ap (λ (xs : List ℕ). drop (length value + length padding) xs) tail
    ∙ sym (drop-drop (length padding) (length value) (value ++ (padding ++ rest))) ∙ ap (λ (xs : List ℕ). drop (length padding) xs) (drop_at value (padding ++ rest) (length value) refl) ∙ drop_at padding rest (length padding) refl in
    let read = body_read m flags value flagged valued readable in
    let whole : IsWhole bytes = record { head = omega arith; stated = omega arith; fits = omega arith; filled = omega arith } in
    let kind = kind-laid (kind_of m) flags size value padding rest in
    let kept = flags-laid (kind_of m) flags size value padding rest in
    chunk_at-shaped bytes (record { whole = whole; laid = rw (kind, is_value) read.laid; list = rw (kind, is_value) read.list }) ∙ rw (kind, kept, is_value, after, read.body) refl

-- a chunk is read whatever follows it
pub chunk_at-chunk : (chunk : List ℕ) (m : ChunkMeaning) (rest : List ℕ) → ReadsChunk chunk m → chunk_at (chunk ++ rest) ≡ Ok (m, rest)
unfolding laid
chunk_at-chunk chunk m rest r =
    let head = header (kind_of m) r.flags (chunk_length m) in
    let joined : chunk ++ rest ≡ laid (kind_of m) r.flags (chunk_length m) r.value r.padding rest =
    ap (λ (xs : List ℕ). xs ++ rest) r.layout ∙ append_assoc head (r.value ++ r.padding) rest ∙ ap (λ (xs : List ℕ). head ++ xs) (append_assoc r.value r.padding rest) in
    ap chunk_at joined ∙ chunk_at-laid m r.flags r.value r.padding rest r.flagged r.valued r.filled r.readable

-- ---- a chunk takes some bytes

-- with its padding a chunk takes its length, filled to a multiple of 4
pub length-chunk : (chunk : List ℕ) (m : ChunkMeaning) → ReadsChunk chunk m → length chunk ≡ padded (chunk_length m)
length-chunk chunk m r =
    omega (arith, ap length r.layout, length-append (u16_bytes (chunk_length m)) (r.value ++ r.padding), length-u16 (chunk_length m), length-append r.value r.padding, r.filled, length-value m r.value r.valued)

-- a chunk has bytes
pub chunk-some : (chunk : List ℕ) (m : ChunkMeaning) → ReadsChunk chunk m → 4 ≤ length chunk
chunk-some chunk m r = rw r.layout (omega (arith, length-append (u16_bytes (chunk_length m)) (r.value ++ r.padding), length-u16 (chunk_length m)))
