-- What the parameters of INIT and INIT ACK say, and which options both endpoints want (RFC 9260, 3.2.1, 3.3.2 and 3.3.3; RFC 3758, 3.1; RFC 8260, 2.2.1).
use Rattle.std.specs.Prelude.{ℕ, Bool, true, false, not, ◌&&◌, ◌||◌, ◌==◌, if◌then◌else◌, List, [], ◌∷◌, ◌++◌, map, Option, Some, None}
use Rattle.sctp_model.specs.wire.Typed.{Typed, typed_in, typed_bytes}
use Rattle.sctp_model.specs.wire.Unknown.{parameters_acted_on, first_of}
use Rattle.sctp_model.specs.wire.Reconfig.{RECONFIG}
use Rattle.sctp_model.specs.end.EndView.{Configuration}
use Rattle.sctp_model.specs.end.Reports.{item}
use Rattle.sctp_model.specs.sender.Outgoing.{are_listed}

-- ---- the parameters that this endpoint knows

-- State Cookie (RFC 9260, 3.3.3.1)
abbrev pub STATE_COOKIE : ℕ
STATE_COOKIE = 7

-- Unrecognized Parameter (RFC 9260, 3.3.3.1)
abbrev pub UNRECOGNIZED : ℕ
UNRECOGNIZED = 8

-- Supported Extensions (RFC 5061, 4.2.7): a byte for each chunk type
abbrev pub SUPPORTED_EXTENSIONS : ℕ
SUPPORTED_EXTENSIONS = 0x8008

-- Forward-TSN-Supported (RFC 3758, 3.1)
abbrev pub FORWARD_TSN_SUPPORTED : ℕ
FORWARD_TSN_SUPPORTED = 0xC000

-- Zero Checksum Acceptable (RFC 9653, 4)
abbrev pub ZERO_CHECKSUM : ℕ
ZERO_CHECKSUM = 0x8001

-- its value for the one method that detects errors in place of the checksum: SCTP over DTLS, number 1 (RFC 9653, 4)
abbrev pub OVER_DTLS : List ℕ
OVER_DTLS = 0 ∷ 0 ∷ 0 ∷ 1 ∷ []

-- the value of a parameter of a list, if it is acted on (RFC 9260, 3.2.1); of a repeated one the first counts
abbrev pub value_of : ℕ → List ℕ → Option (List ℕ)
value_of k bytes = first_of k (parameters_acted_on (typed_in bytes))

-- ---- what both endpoints want

-- the byte is among these
abbrev pub has_byte : ℕ → List ℕ → Bool
has_byte b [] = false
has_byte b (x ∷ xs) = (x == b) || has_byte b xs

-- the value lists this chunk type
abbrev pub lists_type : ℕ → Option (List ℕ) → Bool
lists_type b None = false
lists_type b (Some xs) = has_byte b xs

-- the parameter is there, whatever its value
abbrev pub is_carried : Option (List ℕ) → Bool
is_carried None = false
is_carried (Some xs) = true

-- I-DATA: both are set up for it, and list its chunk type (RFC 8260, 2.2.1)
abbrev pub agreed_interleave : Configuration → List ℕ → Bool
agreed_interleave c bytes = c.interleave && lists_type 64 (value_of SUPPORTED_EXTENSIONS bytes)

-- partial reliability: both are set up for it, and say so (RFC 3758, 3.3); with I-DATA they list I-FORWARD-TSN too (RFC 8260, 2.3.1)
abbrev pub agreed_partial : Configuration → List ℕ → Bool
agreed_partial c bytes =
    c.partial && (is_carried (value_of FORWARD_TSN_SUPPORTED bytes)
    && (not (agreed_interleave c bytes) || lists_type 194 (value_of SUPPORTED_EXTENSIONS bytes)))

-- stream reset: both are set up for it, and list RE-CONFIG (RFC 6525, 5.1.1)
abbrev pub agreed_reset : Configuration → List ℕ → Bool
agreed_reset c bytes = c.reset && lists_type RECONFIG (value_of SUPPORTED_EXTENSIONS bytes)

-- the value is this
abbrev pub is_value : List ℕ → Option (List ℕ) → Bool
is_value xs None = false
is_value xs (Some ys) = are_listed xs ys

-- zero checksums: both are set up for them, and say that DTLS is below (RFC 9653, 5)
abbrev pub agreed_zero_checksum : Configuration → List ℕ → Bool
agreed_zero_checksum c bytes = c.zero_checksum && is_value OVER_DTLS (value_of ZERO_CHECKSUM bytes)

-- ---- an endpoint's own options

-- the chunk types of its extensions, rising (RFC 5061, 4.2.7)
abbrev pub own_extensions : Configuration → List ℕ
own_extensions c =
    (if c.interleave then 64 ∷ [] else [])
    ++ (if c.reset then RECONFIG ∷ [] else []) ++ (if c.partial then 192 ∷ [] else []) ++ (if c.interleave && c.partial then 194 ∷ [] else [])

-- an empty list of extensions isn't written
abbrev pub unless_empty : List ℕ → List Typed
unless_empty [] = []
unless_empty (x ∷ xs) = item SUPPORTED_EXTENSIONS (x ∷ xs) ∷ []

-- what an endpoint says of its options, in INIT and in INIT ACK (RFC 9260, 3.3.2 and 3.3.3)
abbrev pub own_options : Configuration → List Typed
own_options c =
    (if c.partial then item FORWARD_TSN_SUPPORTED [] ∷ [] else [])
    ++ (unless_empty (own_extensions c) ++ (if c.zero_checksum then item ZERO_CHECKSUM OVER_DTLS ∷ [] else []))

-- What an endpoint says of itself to one whose INIT carries these parameters: with `strict` what was agreed on alone.
abbrev pub said_to : Configuration → (asked : List ℕ) → Configuration
said_to c asked = record c {
  interleave = if c.strict then agreed_interleave c asked else c.interleave;
  partial = if c.strict then agreed_partial c asked else c.partial;
  reset = if c.strict then agreed_reset c asked else c.reset;
  zero_checksum = if c.strict then agreed_zero_checksum c asked else c.zero_checksum;
}

-- each of these parameters whole, as the value of a parameter that reports it
abbrev pub reports_of : List Typed → List Typed
reports_of xs = map (λ (x : Typed). item UNRECOGNIZED (typed_bytes x)) xs
