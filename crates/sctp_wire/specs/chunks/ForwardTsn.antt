-- FORWARD-TSN: entries of stream and SSN (RFC 3758, 3.2).
use Rattle.std.specs.Prelude.{ℕ, Bool, List}
use Rattle.sctp_model.specs.wire.Chunk.{ForwardMeaning}
use Rattle.sctp_wire.specs.declared.skips.SkipForm.TheVariants.{Narrow}
use Rattle.sctp_wire.specs.chunks.Forward.{forward_value, ReadsForward, is_forward_value, IsForward, forward_at}

-- the value
abbrev pub forward_tsn_value : ForwardMeaning → List ℕ
forward_tsn_value point = forward_value Narrow point

-- a value that reads as it; no bit is reserved
abbrev pub ReadsForwardTsn : List ℕ → ForwardMeaning → Type 0
ReadsForwardTsn value point = ReadsForward Narrow value point

-- the values that the layout accepts
abbrev pub is_forward_tsn_value : List ℕ → Bool
is_forward_tsn_value value = is_forward_value Narrow value

-- the fields are within their bits, and no entry is of unordered messages
abbrev pub IsForwardTsn : ForwardMeaning → Type 0
IsForwardTsn point = IsForward Narrow point

-- the fields of a value
abbrev pub forward_tsn_at : List ℕ → ForwardMeaning
forward_tsn_at value = forward_at Narrow value
