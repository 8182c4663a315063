-- What a chunk leaves, and what the peer may not do: such a fault closes the association with an ABORT (RFC 9260, 3.3.7, 3.3.10 and 6.2; RFC 8260, 2.2.1).
use Rattle.std.specs.Prelude.{ℕ, Bool, false, [], ◌∷◌}
use Rattle.sctp_model.specs.numbers.Numbers.{u32_bytes}
use Rattle.sctp_model.specs.wire.Typed.{Typed}
use Rattle.sctp_model.specs.wire.Chunk.{ChunkMeaning, Abort}
use Rattle.sctp_model.specs.wire.Packet.{Packet}
use Rattle.sctp_model.specs.end.EndView.{Configuration, Tags, AbortedHere, EndView}
use Rattle.sctp_model.specs.end.Clock.{closed}
use Rattle.sctp_model.specs.end.Reports.{written, item, NO_USER_DATA, PROTOCOL_VIOLATION}

-- why a packet is dropped: bytes that don't read, ports, tag, state, cookie
abbrev pub FAULT : ℕ
FAULT = 1

-- other ports than those of the association (3.1)
abbrev pub PORTS : ℕ
PORTS = 2

-- another tag, or the tag 0 (8.5)
abbrev pub TAG : ℕ
TAG = 3

-- nothing in it is listed for the state (4)
abbrev pub STATE : ℕ
STATE = 4

-- a cookie that does not open (5.1.5)
abbrev pub COOKIE : ℕ
COOKIE = 5

-- What is noted of a chunk for the end of its packet (6.2): nothing, or that it is to be acknowledged, be it user data or a FORWARD; at once, if that may
-- not wait for another packet, which matters only to an endpoint that delays its SACKs.
pub data Note : Type 0 where
  Unnoted : Note
  ToAcknowledge : (is_data at_once : Bool) → Note

-- What a chunk leaves: the packet goes on, with a note, or ends with it; it isn't listed in this state; the packet is answered, and ends; or it drops
-- the packet.
pub data After : Type 0 where
  GoesOn : Note → EndView → After
  Ends : EndView → After
  PassedOver : After
  Replies : EndView → Packet → After
  Drops : (reason : ℕ) → After

-- a packet of one chunk, from this endpoint (3)
abbrev pub packet_to : Configuration → ℕ → ChunkMeaning → Packet
packet_to c tag x = record { source = c.own_port; destination = c.peer_port; tag = tag; chunks = x ∷ [] }

-- an ABORT of this cause (3.3.7)
abbrev pub abort_for : Typed → ChunkMeaning
abort_for x = Abort false (written (x ∷ []))

-- the endpoint closes with an ABORT, which goes to the peer's tag (9.1)
abbrev pub at_fault : Tags → Typed → EndView → After
at_fault t x e = Replies (closed AbortedHere e) (packet_to e.configuration t.peer (abort_for x))

-- a chunk without data, and its TSN (3.3.10.9)
abbrev pub no_user_data : ℕ → Typed
no_user_data tsn = item NO_USER_DATA (u32_bytes tsn)

-- the cause for a broken rule (3.3.10.13)
abbrev pub violation : Typed
violation = item PROTOCOL_VIOLATION []
