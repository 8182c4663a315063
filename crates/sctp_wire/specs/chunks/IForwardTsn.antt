-- I-FORWARD-TSN: entries of stream, kind and MID (RFC 8260, 2.3.1).
use Rattle.std.specs.Prelude.{ℕ, Bool, List}
use Rattle.sctp_model.specs.wire.Chunk.{ForwardMeaning}
use Rattle.sctp_wire.specs.declared.skips.SkipForm.TheVariants.{Wide}
use Rattle.sctp_wire.specs.chunks.Forward.{forward_value, ReadsForward, is_forward_value, IsForward, forward_at}

-- the value, reserved bits zero
abbrev pub i_forward_tsn_value : ForwardMeaning → List ℕ
i_forward_tsn_value point = forward_value Wide point

-- a value that reads as it, with any value in the reserved bits
abbrev pub ReadsIForwardTsn : List ℕ → ForwardMeaning → Type 0
ReadsIForwardTsn value point = ReadsForward Wide value point

-- the values that the layout accepts
abbrev pub is_i_forward_tsn_value : List ℕ → Bool
is_i_forward_tsn_value value = is_forward_value Wide value

-- the fields are within their bits
abbrev pub IsIForwardTsn : ForwardMeaning → Type 0
IsIForwardTsn point = IsForward Wide point

-- the fields of a value
abbrev pub i_forward_tsn_at : List ℕ → ForwardMeaning
i_forward_tsn_at value = forward_at Wide value
