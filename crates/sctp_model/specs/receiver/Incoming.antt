-- What a receiver knows of the stream resets of its peer (RFC 6525, 5.2).
use Rattle.std.specs.Prelude.{ℕ, Bool, List, [], Option, None}
use Rattle.sctp_model.specs.messages.Format.{Lane}
use Rattle.sctp_model.specs.wire.Typed.{Typed}
use Rattle.sctp_model.specs.wire.Reconfig.{ResetResult, BadNumber}

-- A request that was in progress, as it says itself, and whether it was performed since: its sender may retry it with the next sequence number before it learns
-- that.
pub record Waited : Type 0 where
  pub last : ℕ
  pub streams : List ℕ
  pub done : Bool

-- For each lane the number that is 0 on the wire; how many requests were taken, and the result of the last one, and what it said, if it was in progress; the
-- responses that wait for a packet; for each stream that was reset, until that was reported to the user, how many messages had been delivered on it when it was
-- reset last.
pub record Incoming : Type 0 where
  pub base : Lane → ℕ
  pub taken : ℕ
  pub result : ResetResult
  pub waited : Option Waited
  pub answers : List Typed
  pub told : ℕ → Option ℕ

-- before the first request: the sequence number before the first isn't a request's
abbrev pub no_incoming : Incoming
no_incoming = record { base = λ l. 0; taken = 0; result = BadNumber; waited = None; answers = []; told = λ s. None }
