-- What a receiver keeps of the resets of its peer, without where it lies in memory (RFC 6525, 5.2).
use Rattle.std.specs.Prelude.{ℕ, List, Option}
use Rattle.sctp_model.specs.wire.Typed.{Typed}
use Rattle.sctp_model.specs.wire.Reconfig.{ResetResult}
use Rattle.sctp_model.specs.receiver.Incoming.{Waited}
use Rattle.sctp_recv.specs.declared.restart.Restart.{Restart}

-- The number of the last request and its result, what it said, if it was in progress, what is known of each stream, a bit for each stream of which a reset wasn't reported, and the responses that wait for a packet.
pub record ResetsKept : Type 0 where
  pub last : ℕ
  pub result : ResetResult
  pub waited : Option Waited
  pub streams : List Restart
  pub told : List ℕ
  pub answers : List Typed
