-- Bytes read as one packet or as none, so handling the bytes is receiving that packet.
use Rattle.std.proofs.Common.{◌≡◌, ℕ, List, Option, Some, None, refl, sym, ap}
use Rattle.std.specs.Prelude.{Result, Ok, Err, IfOk}
use Rattle.sctp_model.specs.wire.Packet.{Packet}
use Rattle.sctp_model.specs.end.EndView.{Draw, EndView}
use Rattle.sctp_values.specs.declared.no_memory.NoMemory.{NoMemory}
use Rattle.sctp_packet.specs.declared.fault.PacketFault.{PacketFault}
use Rattle.sctp_packet.specs.PacketBytes.{ReadsPacket, FaultsPacket}
use Rattle.sctp_endpoint.specs.EndpointStands.{EndpointStands}
use Rattle.sctp_association.specs.declared.machine.Machine.{Machine}
use Rattle.sctp_endpoint.specs.Handled.{IsRead, Handled, IsAnsweredWithin}
use Rattle.sctp_endpoint.specs.inner.Arrived.{Arrived}
use Rattle.sctp_endpoint.specs.declared.after.Verdict.{Verdict}
use Rattle.sctp_endpoint.specs.declared.endpoint.Endpoint.{Endpoint}

-- bytes that are no packet
pub reads_none : (bytes : List ℕ) (o : Option Packet) → IsRead bytes o → ((p : Packet) → ReadsPacket bytes p → ⊥) → o ≡ None
reads_none bytes None read never = refl
reads_none bytes (Some p) read never = absurd (never p read)

-- bytes that are this one
pub reads_one : (bytes : List ℕ) (o : Option Packet) (p : Packet) → IsRead bytes o → ((q : Packet) → ReadsPacket bytes q → p ≡ q)
    → ((f : PacketFault) → FaultsPacket bytes f → ⊥) → o ≡ Some p
reads_one bytes None p read same never = absurd (never read.0 read.1)
reads_one bytes (Some q) p read same never = ap (λ (x : Packet). Some x) (sym (same q read))

pub handled : (r : Result Verdict NoMemory) (v : EndView) (now : ℕ) (d : Draw) (bytes : List ℕ) (o : Option Packet) (p : Packet) (e : Endpoint)
    → ReadsPacket bytes p → o ≡ Some p → Arrived v now d p r e.machine → Handled v now d o r e
unfolding EndpointStands
handled (Ok told) v now d bytes o p e reads is a = rw is (a.0, a.1, a.2, a.3, a.5)
handled (Err why) v now d bytes o p e reads is a = rw is (a.0, a.1, a.2, a.3 reads.chunks.placed)

pub answered_within : (r : Result Verdict NoMemory) (v : EndView) (now : ℕ) (d : Draw) (p : Packet) (m : Machine) → Arrived v now d p r m
    → IfOk r (λ told. IsAnsweredWithin v.configuration.limit told)
answered_within (Ok told) v now d p m a = a.4
answered_within (Err why) v now d p m a = tt
