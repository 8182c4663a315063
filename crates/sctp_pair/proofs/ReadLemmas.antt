-- What bytes read as, and what a time leaves if they can't be read.
use Rattle.std.proofs.Common.{◌≡◌, ℕ, List, Option, None, Some, Result, Ok, Err, refl, inl, inr, ◌⊎◌, subst}
use Rattle.sctp_model.specs.numbers.Numbers.{AreBytes}
use Rattle.sctp_model.specs.wire.Packet as meaning
use Rattle.sctp_model.specs.end.EndView.{Draw, EndView}
use Rattle.sctp_model.specs.end.Clock.{at_moment}
use Rattle.sctp_model.specs.end.PeerFaults.{FAULT}
use Rattle.sctp_model.specs.end.Strays.{Verdict, Taken, Dropped, Answer}
use Rattle.sctp_model.specs.end.Arriving.{Receives, DroppedUnread, WantsNoMemory}
use Rattle.sctp_model.specs.world.World.{World, Side}
use Rattle.sctp_model.specs.world.Events as events
use Rattle.sctp_model.specs.world.Steps.{Brings, FromStranger, NoPacket}
use Rattle.sctp_packet.specs.PacketBytes.{ReadsPacket, FaultsPacket, WritesPacket}
use Rattle.sctp_packet.specs.PacketLaws.{ReadInOneWay}
use Rattle.sctp_packet.specs.declared.fault.PacketFault.{PacketFault}
use Rattle.sctp_endpoint.specs.Handled.{IsRead, Handled}
use Rattle.sctp_endpoint.specs.EndpointStands.{EndpointStands}
use Rattle.sctp_endpoint.specs.declared.after.Verdict.{Verdict as Told}
use Rattle.sctp_endpoint.specs.declared.endpoint.Endpoint.{Endpoint}
use Rattle.sctp_opening.specs.Told.{IsAnswer}
use Rattle.sctp_values.specs.declared.no_memory.NoMemory.{NoMemory}

-- bytes read as a packet or have a fault
pub is_read : (bytes : List ℕ) → ReadInOneWay bytes → AreBytes bytes → (p : Option meaning.Packet) × IsRead bytes p
is_read bytes law are = by (law.one_of_them are)
  where
    by : ((p : meaning.Packet) × ReadsPacket bytes p) ⊎ ((f : PacketFault) × FaultsPacket bytes f) → (p : Option meaning.Packet) × IsRead bytes p
    by (inl reads) = (Some reads.0, reads.1)
    by (inr faults) = (None, faults)

-- what a stranger's bytes bring
pub brings_foreign : (w : World) (s : Side) (bytes : List ℕ) (p : Option meaning.Packet) → IsRead bytes p → Brings w (events.Foreign s p) s p
brings_foreign w s bytes (Some p) reads = FromStranger s p reads.chunks.placed
brings_foreign w s bytes None reads = NoPacket s

-- bytes that don't read leave the moment
pub unread_leaves : (e : EndView) (now : ℕ) (d : Draw) (t : EndView) (v : Verdict) → Receives e now d None t v → t ≡ at_moment e now
unread_leaves e now d t v DroppedUnread = refl

-- and want no memory
pub unread_wants : (e : EndView) (now : ℕ) (d : Draw) → WantsNoMemory e now d None
unread_wants e now d = (at_moment e now, FAULT, DroppedUnread, inl refl)

-- so the end that such bytes came to was told the moment, and nothing else
pub told_leaves : (v : EndView) (now : ℕ) (d : Draw) (r : Result Told NoMemory) (e : Endpoint) → Handled v now d None r e → EndpointStands e (at_moment v now)
told_leaves v now d (Ok told) e (t, x, came, tells, stands) = subst (λ (y : EndView). EndpointStands e y) (unread_leaves v now d t x came) stands
told_leaves v now d (Err why) e (t, cut, stands, wants) = absurd (wants (unread_wants v now d))

-- the packet of an answer
pub the_answer : (bytes : List ℕ) (x : Verdict) → IsAnswer bytes x → (p : meaning.Packet) × (x ≡ Answer p) × WritesPacket bytes p
the_answer bytes (Answer p) is = (p, refl, is)
the_answer bytes (Dropped reason) is = absurd is
the_answer bytes Taken is = absurd is
