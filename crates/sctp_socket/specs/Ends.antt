-- What a received packet returns and leaves at an endpoint that represents states of the state machine (RFC 9260, 6.10, 8.4 and 8.5).
use Rattle.std.specs.Prelude.{ℕ, Option, Result, Ok, Err}
use Rattle.sctp_model.specs.wire.Packet.{Packet}
use Rattle.sctp_model.specs.end.EndView.{Draw, EndView}
use Rattle.sctp_model.specs.end.Strays as model
use Rattle.sctp_model.specs.end.Arriving.{Receives, IsCutShort, WantsNoMemory}
use Rattle.sctp_values.specs.declared.no_memory.NoMemory.{NoMemory}
use Rattle.sctp_endpoint.specs.Handled.{VerdictStands}
use Rattle.sctp_endpoint.specs.declared.after.Verdict.{Verdict}

module _ {E : Type 0} (Stands : E → EndView → Type 0) where
  -- A packet, or bytes that are none, are received as the state machine receives them. If an allocation failed the chunks before the failing one have acted, and it wasn't a packet
  -- that is dropped for its bytes, its ports or its tag.
  abbrev pub Hears : EndView → (now : ℕ) → Draw → Option Packet → Result Verdict NoMemory → E → Type 0
  Hears v now d o (Ok told) e = (t : EndView) × (x : model.Verdict) × Receives v now d o t x × VerdictStands told x × Stands e t
  Hears v now d o (Err why) e = (t : EndView) × IsCutShort v now d o t × Stands e t × (WantsNoMemory v now d o → ⊥)
