-- Lists of parameters and causes: what is written is a list, its length, and which chunks may be written with it.
use Rattle.std.proofs.Common.{◌≡◌, ℕ, ◌+◌, ◌<◌, ◌≤◌, ◌^◌, Bool, true, false, cond, List, [], ◌∷◌, ◌++◌, length, length-append, refl, arith}
use Rattle.std.specs.Prelude.{◌&&◌}
use Rattle.sctp_model.specs.wire.Chunk.{InitMeaning, Init, InitAck, Abort, padded}
use Rattle.sctp_model.specs.wire.Typed.{Typed, WritesTyped, are_typed, AreAsWritten, written_typed, typed_bytes, filled}
use Rattle.sctp_model.specs.end.EndView.{Configuration}
use Rattle.sctp_model.specs.wire.Reconfig.{RECONFIG}
use Rattle.sctp_model.specs.end.Options.{STATE_COOKIE, SUPPORTED_EXTENSIONS, FORWARD_TSN_SUPPORTED, own_extensions, unless_empty, own_options}
use Rattle.sctp_model.specs.end.Options.{ZERO_CHECKSUM, OVER_DTLS, said_to}
use Rattle.sctp_model.specs.end.Reports.{item}
use Rattle.sctp_model.proofs.TypedLemmas.{length-item, typed_of-reads}
use Rattle.sctp_model.proofs.TypedWriting.{reads_writes_typed, writes_as_written}
use Rattle.sctp_wire.specs.Layouts.{Fits}
use Rattle.sctp_wire.specs.chunks.Init.{IsInit}
use Rattle.sctp_opening.specs.inner.Fitting.{IsList}
use Rattle.sctp_opening.proofs.FittingLemmas.{length-filled}

-- the bytes of a list are read as one, and are as they are written
pub record IsWritten (bytes : List ℕ) : Type 0 where
  pub listed : are_typed bytes ≡ true
  pub plain : AreAsWritten bytes

pub written_list : (bytes : List ℕ) → IsList bytes → IsWritten bytes
written_list bytes (xs, w) = record {
  listed = rw (typed_of-reads bytes xs (reads_writes_typed bytes xs w)) refl;
  plain = writes_as_written bytes xs w;
}

pub empty_list : WritesTyped [] []
empty_list = record { bytes_are = refl; fit = tt }

-- ---- chunks with a list

-- what an end says of itself, in range, with a short list of parameters
pub record IsOffer (m : InitMeaning) : Type 0 where
  pub tag : m.tag < 2 ^ 32
  pub rwnd : m.rwnd < 2 ^ 32
  pub outbound : m.outbound < 2 ^ 16
  pub inbound : m.inbound < 2 ^ 16
  pub tsn : m.tsn < 2 ^ 32
  pub short : length m.parameters < 60000
  pub list : IsList m.parameters

in_range : (m : InitMeaning) → IsOffer m → IsInit m
in_range m o = record {
  tag = o.tag;
  rwnd = o.rwnd;
  outbound = o.outbound;
  inbound = o.inbound;
  tsn = o.tsn;
  listed = (written_list m.parameters o.list).listed;
}

pub init-fits : (m : InitMeaning) → IsOffer m → Fits (Init m)
init-fits m o = record { fields = in_range m o; length = let short = o.short in omega arith; plain = (written_list m.parameters o.list).plain }

pub init_ack-fits : (m : InitMeaning) → IsOffer m → Fits (InitAck m)
init_ack-fits m o = record { fields = in_range m o; length = let short = o.short in omega arith; plain = (written_list m.parameters o.list).plain }

pub abort-fits : (reflected : Bool) (causes : List ℕ) → IsList causes → length causes < 60000 → Fits (Abort reflected causes)
abort-fits reflected causes list short =
    record { fields = (written_list causes list).listed; length = omega arith; plain = (written_list causes list).plain }

-- ---- sizes

-- one item in front
one_more : (x : Typed) (xs : List Typed) → length (written_typed (x ∷ xs)) ≤ padded (4 + length x.value) + length (written_typed xs)
one_more x [] = omega (arith, length-item x)
one_more x (y ∷ ys) =
    omega (arith, length-append (filled (typed_bytes x)) (written_typed (y ∷ ys)), length-filled (typed_bytes x), length-item x)

-- an item takes four bytes at least
pub some_bytes : (x : Typed) (xs : List Typed) → 4 ≤ length (written_typed (x ∷ xs))
some_bytes x [] = omega (arith, length-item x)
some_bytes x (y ∷ ys) =
    omega (arith, length-append (filled (typed_bytes x)) (written_typed (y ∷ ys)), length-filled (typed_bytes x), length-item x)

extensions_short : (partial interleave reset : Bool)
    → length {A = ℕ} (cond interleave (64 ∷ []) [] ++ cond reset (RECONFIG ∷ []) [] ++ cond partial (192 ∷ []) [] ++ cond (interleave && partial) (194 ∷ []) []) ≤ 4
extensions_short true true true = omega arith
extensions_short true true false = omega arith
extensions_short true false true = omega arith
extensions_short true false false = omega arith
extensions_short false true true = omega arith
extensions_short false true false = omega arith
extensions_short false false true = omega arith
extensions_short false false false = omega arith

checksum_short : (zero : Bool) → length (written_typed (cond zero (item ZERO_CHECKSUM OVER_DTLS ∷ []) [])) ≤ 8
checksum_short true = one_more (item ZERO_CHECKSUM OVER_DTLS) []
checksum_short false = omega arith

listed_short : (zero : Bool) (xs : List ℕ) → length xs ≤ 4 → length (written_typed (unless_empty xs ++ cond zero (item ZERO_CHECKSUM OVER_DTLS ∷ []) [])) ≤ 16
listed_short zero [] short = let last = checksum_short zero in omega arith
listed_short zero (x ∷ xs) short =
    let last = checksum_short zero in
    let size = one_more (item SUPPORTED_EXTENSIONS (x ∷ xs)) (cond zero (item ZERO_CHECKSUM OVER_DTLS ∷ []) []) in
    omega arith

behind_partial : (partial : Bool) (xs : List Typed)
    → length (written_typed (cond partial (item FORWARD_TSN_SUPPORTED [] ∷ []) [] ++ xs)) ≤ 4 + length (written_typed xs)
behind_partial true xs = one_more (item FORWARD_TSN_SUPPORTED []) xs
behind_partial false xs = omega arith

-- an end's options
pub options_short : (c : Configuration) → length (written_typed (own_options c)) ≤ 20
options_short c =
    let list = listed_short c.zero_checksum (own_extensions c) (extensions_short c.partial c.interleave c.reset) in
    let whole = behind_partial c.partial (unless_empty (own_extensions c) ++ cond c.zero_checksum (item ZERO_CHECKSUM OVER_DTLS ∷ []) []) in
    omega arith

-- a cookie and the options behind it
pub front_short : (c : Configuration) (cookie : List ℕ) → length cookie ≡ 72
    → length (written_typed (item STATE_COOKIE cookie ∷ own_options c)) ≤ 96
front_short c cookie size =
    let first = one_more (item STATE_COOKIE cookie) (own_options c) in
    let others = options_short c in
    omega arith

-- ---- what an end says

-- an end that isn't strict says all that it is set up for
pub all_said : (c : Configuration) (asked : List ℕ) → c.strict ≡ false → own_options (said_to c asked) ≡ own_options c
all_said c asked mild = rw mild refl
