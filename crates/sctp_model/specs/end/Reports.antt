-- What an endpoint reports to its peer that it couldn't use: causes and parameters as bytes, and which of them fit a packet (RFC 9260, 3.2, 3.2.2 and 3.3.10).
use Rattle.std.specs.Prelude.{ℕ, nat_le, Bool, if◌then◌else◌, List, [], ◌∷◌, ◌++◌}
use Rattle.sctp_model.specs.wire.Chunk.{ChunkMeaning, Error}
use Rattle.sctp_model.specs.wire.Packet.{size_of_packet}
use Rattle.sctp_model.specs.wire.Typed.{Typed, written_typed}
use Rattle.sctp_model.specs.end.EndView.{EndView}

-- ---- bytes

-- the bytes of a list of items
abbrev pub written : List Typed → List ℕ
written xs = written_typed xs

-- ---- causes and parameters

-- the types of causes (RFC 9260, 3.3.10)
abbrev pub INVALID_STREAM : ℕ
INVALID_STREAM = 1

-- a mandatory parameter is missing (3.3.10.2)
abbrev pub MISSING_PARAMETER : ℕ
MISSING_PARAMETER = 2

-- the cookie arrived too late (3.3.10.3)
abbrev pub STALE_COOKIE : ℕ
STALE_COOKIE = 3

-- no resource (3.3.10.4)
abbrev pub OUT_OF_RESOURCE : ℕ
OUT_OF_RESOURCE = 4

-- a chunk of an unknown type (3.3.10.6)
abbrev pub UNRECOGNIZED_CHUNK : ℕ
UNRECOGNIZED_CHUNK = 6

-- a mandatory parameter is invalid (3.3.10.7)
abbrev pub INVALID_PARAMETER : ℕ
INVALID_PARAMETER = 7

-- parameters of unknown types (3.3.10.8)
abbrev pub UNRECOGNIZED_PARAMETERS : ℕ
UNRECOGNIZED_PARAMETERS = 8

-- a data chunk without data (3.3.10.9)
abbrev pub NO_USER_DATA : ℕ
NO_USER_DATA = 9

-- the user aborts (3.3.10.12)
abbrev pub USER_ABORT : ℕ
USER_ABORT = 12

-- the peer broke a rule (3.3.10.13)
abbrev pub PROTOCOL_VIOLATION : ℕ
PROTOCOL_VIOLATION = 13

-- a cause or a parameter of this type
abbrev pub item : ℕ → List ℕ → Typed
item kind value = record { kind = kind; value = value }

-- ---- what still fits

-- the chunk, padded, fits a packet of its own
abbrev pub fits_alone : EndView → ChunkMeaning → Bool
fits_alone e x = nat_le (size_of_packet (x ∷ [])) e.configuration.limit

-- A cause joins those that wait, unless the ERROR chunk of them all would pass the packet limit.
abbrev pub causes_with : EndView → Typed → List Typed
causes_with e x = if fits_alone e (Error (written (e.due.causes ++ x ∷ []))) then e.due.causes ++ x ∷ [] else e.due.causes

-- the endpoint with these causes waiting
abbrev pub with_causes : List Typed → EndView → EndView
with_causes xs e = record e { due = record e.due { causes = xs } }

-- Of items to report one by one, those that fit after the ones taken before: `fits` says whether a list of them does.
abbrev pub as_fit : (List Typed → Bool) → List Typed → List Typed → List Typed
as_fit fits taken [] = taken
as_fit fits taken (x ∷ xs) = as_fit fits (if fits (taken ++ x ∷ []) then taken ++ x ∷ [] else taken) xs
