-- What handling a packet returns and leaves, in terms of a view (RFC 9260, 8.4 and 8.5).
use Rattle.std.specs.Prelude.{◌≡◌, ℕ, ◌≤◌, List, length, Option, Some, None, Result, Ok, Err}
use Rattle.sctp_model.specs.wire.Packet.{Packet}
use Rattle.sctp_model.specs.end.EndView.{Draw, EndView}
use Rattle.sctp_model.specs.end.Strays as model
use Rattle.sctp_model.specs.end.Arriving.{Receives, IsCutShort, WantsNoMemory}
use Rattle.sctp_values.specs.declared.no_memory.NoMemory.{NoMemory}
use Rattle.sctp_terms.specs.Meanings.{reason_code}
use Rattle.sctp_packet.specs.declared.fault.PacketFault.{PacketFault}
use Rattle.sctp_packet.specs.PacketBytes.{ReadsPacket, FaultsPacket, WritesPacket}
use Rattle.sctp_endpoint.specs.EndpointStands.{EndpointStands}
use Rattle.sctp_endpoint.specs.declared.after.Verdict.{Verdict}
use Rattle.sctp_endpoint.specs.declared.after.Verdict.TheVariants.{Taken, Dropped, Answer}
use Rattle.sctp_endpoint.specs.declared.endpoint.Endpoint.{Endpoint}

-- the machine's verdict is an answer, and these bytes are its packet
abbrev pub IsAnswer : List ℕ → model.Verdict → Type 0
IsAnswer bytes (model.Answer p) = WritesPacket bytes p
IsAnswer bytes (model.Dropped reason) = ⊥
IsAnswer bytes model.Taken = ⊥

-- the verdict, by its name in the state machine
abbrev pub VerdictStands : Verdict → model.Verdict → Type 0
VerdictStands Taken x = x ≡ model.Taken
VerdictStands (Dropped reason) x = x ≡ model.Dropped (reason_code reason)
VerdictStands (Answer bytes) x = IsAnswer bytes.items x

-- If the verdict is an answer, that has at most `limit` bytes.
abbrev pub IsAnsweredWithin : (limit : ℕ) → Verdict → Type 0
IsAnsweredWithin limit Taken = Unit {0}
IsAnsweredWithin limit (Dropped reason) = Unit {0}
IsAnsweredWithin limit (Answer bytes) = length bytes.items ≤ limit

-- what bytes are read as: a packet, or none if they have a fault
abbrev pub IsRead : List ℕ → Option Packet → Type 0
IsRead bytes (Some p) = ReadsPacket bytes p
IsRead bytes None = (f : PacketFault) × FaultsPacket bytes f

-- The packet was received as the state machine receives it. If an allocation failed, the chunks before the failing one have acted; and it wasn't a
-- packet that is dropped for its bytes, its ports or its tag.
abbrev pub Handled : EndView → (now : ℕ) → Draw → Option Packet → Result Verdict NoMemory → Endpoint → Type 0
Handled v now d o (Ok told) e = (t : EndView) × (x : model.Verdict) × Receives v now d o t x × VerdictStands told x × EndpointStands e t
Handled v now d o (Err why) e = (t : EndView) × IsCutShort v now d o t × EndpointStands e t × (WantsNoMemory v now d o → ⊥)
