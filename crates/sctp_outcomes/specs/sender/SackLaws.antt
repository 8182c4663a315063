-- What the sender's functions compute of a SACK and of a SHUTDOWN is what the relations say, and nothing else.
use Rattle.std.specs.Prelude.{◌≡◌, ◌↔◌, ◌^◌, ◌<◌, ℕ, Some, None}
use Rattle.sctp_model.specs.wire.Chunk.{SackMeaning}
use Rattle.sctp_model.specs.sender.SenderView.{SenderView}
use Rattle.sctp_model.specs.sender.SackTaken.{SackFault, sack_fault, sack_after, shutdown_fault, shutdown_after}
use Rattle.sctp_outcomes.specs.sender.Sacks.{IsFaulty, IsShutdownFaulty, IsSackTaken, IsShutdownTaken}

-- ---- a SACK whose cumulative TSN has 32 bits

-- the fault that is reported is the one that it has
abbrev pub SackFaultIsTold : Type 0
SackFaultIsTold = (v : SenderView) (x : SackMeaning) (a : SackFault) → x.cumulative < 2 ^ 32 → (sack_fault v x ≡ Some a) ↔ IsFaulty v x a

-- without one it is taken
abbrev pub SackIsTaken : Type 0
SackIsTaken = (v : SenderView) (x : SackMeaning) → x.cumulative < 2 ^ 32 → sack_fault v x ≡ None → IsSackTaken v x (sack_after v x)

-- what is taken had no fault
abbrev pub TakenHasNoFault : Type 0
TakenHasNoFault = (v u : SenderView) (x : SackMeaning) → x.cumulative < 2 ^ 32 → IsSackTaken v x u → sack_fault v x ≡ None

-- one with a fault changes nothing
abbrev pub FaultyIsDropped : Type 0
FaultyIsDropped = (v : SenderView) (x : SackMeaning) (a : SackFault) → x.cumulative < 2 ^ 32 → IsFaulty v x a → sack_after v x ≡ v

-- ---- a SHUTDOWN

-- the fault that is reported is the one that it has
abbrev pub ShutdownFaultIsTold : Type 0
ShutdownFaultIsTold = (v : SenderView) (wire : ℕ) (a : SackFault) → wire < 2 ^ 32 → (shutdown_fault v wire ≡ Some a) ↔ IsShutdownFaulty v wire a

-- without one it is taken
abbrev pub ShutdownIsTaken : Type 0
ShutdownIsTaken = (v : SenderView) (wire : ℕ) → wire < 2 ^ 32 → shutdown_fault v wire ≡ None → IsShutdownTaken v wire (shutdown_after v wire)

-- one with a fault changes nothing
abbrev pub FaultyShutdownIsDropped : Type 0
FaultyShutdownIsDropped = (v : SenderView) (wire : ℕ) (a : SackFault) → wire < 2 ^ 32 → IsShutdownFaulty v wire a → shutdown_after v wire ≡ v
