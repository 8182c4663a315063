-- What the first bytes of a chunk promise of it.
use Rattle.std.specs.Prelude.{ℕ, ◌≤◌, List, length}
use Rattle.sctp_model.specs.wire.Chunk.{padded}
use Rattle.sctp_wire.specs.FirstFault.{stated_length}

-- all of the first chunk is there, with its padding
pub record IsWhole (bytes : List ℕ) : Type 0 where
  pub head : 4 ≤ length bytes
  pub stated : 4 ≤ stated_length bytes
  pub fits : stated_length bytes ≤ length bytes
  pub filled : padded (stated_length bytes) ≤ length bytes
