-- What DATA and I-DATA have in common: the four flags I, U, B and E (RFC 9260, 3.3.1; RFC 8260, 2.1).
use Rattle.std.specs.Prelude.{ℕ, ◌+◌}
use Rattle.sctp_model.specs.wire.Chunk.{PieceMeaning}
use Rattle.sctp_wire.specs.declared.codes.TheConstants.{IMMEDIATE, UNORDERED, BEGIN, END}
use Rattle.sctp_wire.specs.chunks.Flags.{flag}

-- the flags of a piece, unused ones zero
abbrev pub data_flags : PieceMeaning → ℕ
data_flags p = flag IMMEDIATE p.immediate + flag UNORDERED p.unordered + flag BEGIN p.begin + flag END p.end
