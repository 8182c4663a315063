-- What C gets of the low threshold of a channel's buffered amount.
use Rattle.std.specs.Prelude.{◌≡◌, ℕ, Option, None, Some, Result, Ok, Err}
use Rattle.sctp_model.specs.end.EndView.{EndView}
use Rattle.sctp_channels.specs.Answers.{SetsThreshold}
use Rattle.sctp_channels.specs.Streams.{Table}
use Rattle.sctp_channels.specs.declared.fault.ThresholdFault.{ThresholdFault}
use Rattle.sctp_channels.specs.declared.fault.ThresholdFault.TheVariants.{NoChannel, NoMemory}
use Rattle.sctp_c.specs.declared.channels.held.Held.{Held}
use Rattle.sctp_c.specs.declared.codes.TheConstants.{OK, NO_MEMORY, NO_CHANNEL}

-- the result of setting it
abbrev pub set_code : Result (Unit {0}) ThresholdFault → ℕ
set_code (Ok done) = OK
set_code (Err NoChannel) = NO_CHANNEL
set_code (Err NoMemory) = NO_MEMORY

-- what the channels answered to set_buffered_amount_low_threshold, and left in the handle
abbrev pub SetsIn : EndView → Table → (stream bytes : ℕ) → Result (Unit {0}) ThresholdFault → Option Held → Type 0
SetsIn v x s n r None = ⊥
SetsIn v x s n r (Some h) = SetsThreshold v x s n r h.channels

-- The channels answered this, C gets it, and they are left so.
pub record SetsFor (v : EndView) (x : Table) (stream bytes : ℕ) (h : Option Held) (code : ℕ) : Type 0 where
  pub answer : Result (Unit {0}) ThresholdFault
  pub sets : SetsIn v x stream bytes answer h
  pub told : code ≡ set_code answer
