-- What a socket does with a packet, by its first chunk and by what it has with the peer (RFC 9260, 5.2, 8.4 and 8.5; RFC 6951, 5.4).
use Rattle.std.specs.Prelude.{◌≡◌, ◌≢◌, ℕ, Bool, true, false, if◌then◌else◌, List, [], ◌∷◌, Option}
use Rattle.std.specs.Bool.{Decides}
use Rattle.sctp_model.specs.wire.Chunk.{InitMeaning, ChunkMeaning, Data, IData, Init, InitAck, Sack, Heartbeat, HeartbeatAck, Abort, Shutdown, ShutdownAck, Error, CookieEcho, CookieAck, ShutdownComplete, ForwardTsn, IForwardTsn, Unknown}
use Rattle.sctp_model.specs.end.Sealing.{Sealing}
use Rattle.sctp_model.specs.end.EndView.{Configuration, Draw, Phase, Idle, Listening, Calling, Echoing, Open, Over, Listener, EndView, fresh_end, has_association}
use Rattle.sctp_model.specs.end.Clock.{at_moment}
use Rattle.sctp_model.specs.end.Passing.{is_reflected}
use Rattle.sctp_model.specs.end.Opening.{CookieRead, cookie_read, is_ours}
use Rattle.sctp_socket.specs.declared.meeting.Standing.{Standing}
use Rattle.sctp_socket.specs.declared.meeting.Standing.TheVariants.{Apart, Called, Echoed, Joined}
use Rattle.sctp_socket.specs.declared.meeting.Reply.{Reply}
use Rattle.sctp_socket.specs.declared.meeting.Reply.TheVariants.{Silent, UnderOwn, UnderFresh}
use Rattle.sctp_socket.specs.Meeting.{reply}

-- ---- how its association is found

-- By the peer, not by this side's tag: an INIT, which has none, a COOKIE ECHO, which may be of a peer that begins anew, and what shows the peer's tag (8.5.1).
abbrev pub is_found_by_peer : ChunkMeaning → Bool
is_found_by_peer (Init m) = true
is_found_by_peer (CookieEcho xs) = true
is_found_by_peer x = is_reflected x

-- the same of a packet's chunks
abbrev pub are_found_by_peer : List ChunkMeaning → Bool
are_found_by_peer [] = false
are_found_by_peer (x ∷ xs) = is_found_by_peer x

-- ---- who gets it

-- what a socket has with a peer, by the state of its endpoint
abbrev pub standing_in : Phase → Standing
standing_in Idle = Apart
standing_in Listening = Apart
standing_in (Calling d) = Called d
standing_in (Echoing t xs) = Echoed t.own t.peer
standing_in (Open t g) = Joined t.own t.peer
standing_in (Over why) = Apart

-- who gets a packet
pub data Route : Type 0 where
  Nobody ToEnd : Route
  -- a listener that is made for it, with these random values
  ToListener : Draw → Route

-- the random values of a call, else fresh ones
abbrev pub draw_of : (fresh : Draw) → Standing → Draw
draw_of fresh (Called d) = d
draw_of fresh Apart = fresh
draw_of fresh (Echoed own peer) = fresh
draw_of fresh (Joined own peer) = fresh

-- an INIT
abbrev pub route_of_reply : Standing → (fresh : Draw) → Reply → Route
route_of_reply x fresh Silent = Nobody
route_of_reply x fresh UnderOwn = ToListener (draw_of fresh x)
route_of_reply x fresh UnderFresh = ToListener fresh

-- the listener for a peer, at this time
abbrev pub listener_at : Configuration → Sealing → (now : ℕ) → EndView
listener_at c s now = at_moment (fresh_end c (Listener s) Listening) now

-- the cookie is that of the association that is open
abbrev pub is_known : Standing → CookieRead → Bool
is_known (Joined own peer) k = is_ours (record { own = own; peer = peer }) k
is_known Apart k = false
is_known (Called d) k = false
is_known (Echoed own peer) k = false

-- a COOKIE ECHO, by what a listener reads in its cookie: its endpoint handles an open association's own one
abbrev pub route_of_echo : Standing → (fresh : Draw) → CookieRead → Route
route_of_echo x fresh k = if is_known x k then ToEnd else ToListener fresh

-- what needs an association
abbrev pub route_of_others : Standing → (fresh : Draw) → Route
route_of_others Apart fresh = ToListener fresh
route_of_others (Called d) fresh = ToEnd
route_of_others (Echoed own peer) fresh = ToEnd
route_of_others (Joined own peer) fresh = ToEnd

-- an INIT ACK
abbrev pub route_of_ack : Standing → (fresh : Draw) → Route
route_of_ack Apart fresh = ToListener fresh
route_of_ack (Called d) fresh = ToEnd
route_of_ack (Echoed own peer) fresh = Nobody
route_of_ack (Joined own peer) fresh = Nobody

-- What it is routed by: the configuration and the seal of a listener for the peer, what the socket has with the peer, the time up to which its cookies begin nothing, the
-- time, and fresh random values.
pub record Place : Type 0 where
  pub configuration : Configuration
  pub seal : Sealing
  pub standing : Standing
  pub bar : Option ℕ
  pub now : ℕ
  pub fresh : Draw

-- the listener there
abbrev pub listener_there : Place → EndView
listener_there l = listener_at l.configuration l.seal l.now

-- by the first chunk of a packet with this tag
abbrev pub route_of : Place → (tag : ℕ) → ChunkMeaning → Route
route_of l tag (Init m) = route_of_reply l.standing l.fresh (reply l.standing l.bar l.now m.tag)
route_of l tag (CookieEcho cookie) = route_of_echo l.standing l.fresh (cookie_read l.seal (listener_there l) tag cookie)
route_of l tag (InitAck m) = route_of_ack l.standing l.fresh
route_of l tag (Data p) = route_of_others l.standing l.fresh
route_of l tag (IData p) = route_of_others l.standing l.fresh
route_of l tag (Sack m) = route_of_others l.standing l.fresh
route_of l tag (Heartbeat i) = route_of_others l.standing l.fresh
route_of l tag (HeartbeatAck i) = route_of_others l.standing l.fresh
route_of l tag (Abort t causes) = route_of_others l.standing l.fresh
route_of l tag (Shutdown n) = route_of_others l.standing l.fresh
route_of l tag ShutdownAck = route_of_others l.standing l.fresh
route_of l tag (Error causes) = route_of_others l.standing l.fresh
route_of l tag CookieAck = route_of_others l.standing l.fresh
route_of l tag (ShutdownComplete t) = route_of_others l.standing l.fresh
route_of l tag (ForwardTsn m) = route_of_others l.standing l.fresh
route_of l tag (IForwardTsn m) = route_of_others l.standing l.fresh
route_of l tag (Unknown k f v) = route_of_others l.standing l.fresh

-- WHO GETS A PACKET that reads, with this tag and these chunks.
abbrev pub routed : Place → (tag : ℕ) → List ChunkMeaning → Route
routed l tag [] = Nobody
routed l tag (x ∷ xs) = route_of l tag x

-- it waits for an INIT ACK
abbrev pub IsCalled : Standing → Type 0
IsCalled x = (d : Draw) × (x ≡ Called d)

-- ---- laws

-- No INIT reaches an association's endpoint.
abbrev pub InitsReachNoEnd : Type 0
InitsReachNoEnd = (l : Place) (tag : ℕ) (m : InitMeaning) → route_of l tag (Init m) ≢ ToEnd

-- A COOKIE ECHO that reaches one has the association's own cookie, with both its tags.
abbrev pub EchoesAreOwn : Type 0
EchoesAreOwn = (l : Place) (tag : ℕ) (cookie : List ℕ) → route_of l tag (CookieEcho cookie) ≡ ToEnd →
    is_known l.standing (cookie_read l.seal (listener_there l) tag cookie) ≡ true

-- An INIT ACK reaches one that waits for it, no other.
abbrev pub AcksReachCallers : Type 0
AcksReachCallers = (l : Place) (tag : ℕ) (m : InitMeaning) → route_of l tag (InitAck m) ≡ ToEnd → IsCalled l.standing

-- What a socket has with a peer is apart exactly if its endpoint has no association.
abbrev pub ApartWithout : Type 0
ApartWithout = (h : Phase) → Decides (has_association h) (standing_in h ≡ Apart → ⊥)
