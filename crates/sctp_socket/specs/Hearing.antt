-- What a socket does with a packet: for which association it is, what its endpoint does, or what a listener answers, or which association begins (RFC 9260, 5.1, 5.2, 8.4 and 8.5; RFC
-- 6951, 5.4).
use Rattle.std.specs.Prelude.{◌≡◌, ◌==◌, ◌⊎◌, ℕ, Bool, true, false, if◌then◌else◌, List, Option, Some, None, MatchOption, Result, Ok, Err}
use Rattle.sctp_model.specs.wire.Packet.{Packet}
use Rattle.sctp_model.specs.end.EndView.{Draw, EndView, Listener, Listening, fresh_end}
use Rattle.sctp_model.specs.end.Sealing.{Body, Sealing}
use Rattle.sctp_model.specs.end.Strays as model
use Rattle.sctp_model.specs.end.Strays.{chunks_verdict}
use Rattle.sctp_model.specs.end.Arriving.{Receives, IsCutShort, WantsNoMemory, is_answer}
use Rattle.sctp_values.specs.declared.no_memory.NoMemory.{NoMemory}
use Rattle.sctp_terms.specs.declared.reason.Reason.TheVariants as reason
use Rattle.sctp_cookie.specs.CookieTree.{content_meaning}
use Rattle.sctp_opening.specs.declared.outside.Stray.{Stray}
use Rattle.sctp_opening.specs.declared.outside.Stray.TheVariants as stray
use Rattle.sctp_endpoint.specs.Handled.{VerdictStands}
use Rattle.sctp_endpoint.specs.declared.after.Verdict.{Verdict}
use Rattle.sctp_endpoint.specs.declared.after.Verdict.TheVariants.{Taken, Dropped, Answer}
use Rattle.sctp_socket.specs.Meeting.{meets}
use Rattle.sctp_socket.specs.Entries.{moved}
use Rattle.sctp_socket.specs.Peers.{Admits, key_of}
use Rattle.sctp_socket.specs.Routing.{Place, Route, Nobody, ToEnd, ToListener, are_found_by_peer, listener_there, routed}
use Rattle.sctp_socket.specs.Unkept.{Leaves}
use Rattle.sctp_socket.specs.SocketView.{Slot, SocketView, bar_of, begun_with, is_taken, slot_at, slot_called, standing_of, succeeded_by, with_port, with_retired, with_slot}
use Rattle.sctp_socket.specs.declared.peer.Peer.{Peer}
use Rattle.sctp_socket.specs.declared.peer.Source.{Source}
use Rattle.sctp_socket.specs.declared.meeting.Standing.{Standing}
use Rattle.sctp_socket.specs.declared.meeting.Standing.TheVariants.{Apart, Called, Echoed, Joined}
use Rattle.sctp_socket.specs.declared.meeting.Meeting.{Meeting}
use Rattle.sctp_socket.specs.declared.meeting.Meeting.TheVariants.{Ignored, Begins, CallsAgain}
use Rattle.sctp_socket.specs.declared.heard.Heard.{Heard}
use Rattle.sctp_socket.specs.declared.heard.Heard.TheVariants as heard
use Rattle.sctp_socket.specs.declared.heard.Origin.{Origin}

-- ---- for which association it is

-- the peer that a packet is from
abbrev pub from_of : Origin → Packet → Peer
from_of o p = record { host = o.host; udp_port = o.udp_port; port = p.source }

-- there is an association, its peer hasn't restarted, and it admits packets from there
abbrev pub IsAdmitted : Source → (from : Peer) → Option Slot → Type 0
IsAdmitted s from None = ⊥
IsAdmitted s from (Some x) = (x.current ≡ true) × Admits s x.peer from

-- the association with this number has the tag, and its peer admits the packet
pub record IsFor (v : SocketView) (tag : ℕ) (from : Peer) (s : Source) (n : ℕ) : Type 0 where
  pub tagged : v.tagged tag ≡ Some n
  pub admitted : IsAdmitted s from (v.slots n)

-- found by the peer that it is from, or by its tag
abbrev pub IsFound : (by_peer : Bool) → SocketView → (tag : ℕ) → (from : Peer) → Source → Option ℕ → Type 0
IsFound true v tag from s found = found ≡ v.latest from
IsFound false v tag from s found = MatchOption found ((n : ℕ) → IsFor v tag from s n → ⊥) (λ n. IsFor v tag from s n)

-- THE ASSOCIATION of a packet, if there is one
abbrev pub Finds : SocketView → Packet → (from : Peer) → Source → Option ℕ → Type 0
Finds v p from s found = IsFound (are_found_by_peer p.chunks) v p.tag from s found

-- what it is routed by
abbrev pub place_in : SocketView → Sealing → (found : Option ℕ) → (from : Peer) → Draw → Place
place_in v s found from d = record {
  configuration = with_port v.configuration from.port;
  seal = s;
  standing = standing_of (slot_at v found);
  bar = bar_of (slot_at v found);
  now = v.moment;
  fresh = d;
}

-- ---- to an association's endpoint

-- the association once its endpoint is this one
abbrev pub went : Slot → Peer → EndView → Slot
went x peer t = record x { peer = peer; end = t }

-- Its endpoint handles the packet, and the others stay as they are. If an allocation failed the chunks before the failing one have acted.
abbrev pub EndHears : SocketView → (found : Option ℕ) → Slot → (from : Peer) → Draw → Packet → Result Heard NoMemory → SocketView → Type 0
EndHears v found x from d p (Ok (heard.Of number told)) w = (found ≡ Some number) × (t : EndView) × (y : model.Verdict) × Receives x.end v.moment d (Some p) t y × VerdictStands told y
    × (w ≡ with_slot number (went x (moved told x.peer from) t) v)
EndHears v found x from d p (Ok (heard.Nobody told)) w = ⊥
EndHears v found x from d p (Ok heard.Full) w = ⊥
EndHears v found x from d p (Err why) w = (number : ℕ) × (found ≡ Some number) × (t : EndView) × IsCutShort x.end v.moment d (Some p) t
    × (WantsNoMemory x.end v.moment d (Some p) → ⊥) × (w ≡ with_slot number (went x x.peer t) v)

-- the same, if there is one
abbrev pub EndOfHears : Option Slot → SocketView → (found : Option ℕ) → (from : Peer) → Draw → Packet → Result Heard NoMemory → SocketView → Type 0
EndOfHears None v found from d p r w = (r ≡ Ok (heard.Nobody (Dropped reason.State))) × (w ≡ v)
EndOfHears (Some x) v found from d p r w = EndHears v found x from d p r w

-- by the number that was found
abbrev pub EndAtHears : SocketView → (found : Option ℕ) → (from : Peer) → Draw → Packet → Result Heard NoMemory → SocketView → Type 0
EndAtHears v found from d p r w = EndOfHears (slot_at v found) v found from d p r w

-- ---- an association begins

-- a call, whose place an association takes under the same number
abbrev pub is_call : Standing → Bool
is_call Apart = false
is_call (Called d) = true
is_call (Echoed own peer) = true
is_call (Joined own peer) = false

-- the number whose place it takes, if there is a call
abbrev pub succeeds : Standing → (found : Option ℕ) → Option ℕ
succeeds x found = if is_call x then found else None

-- what there was with the peer is over for its user
abbrev pub retired_in : (found : Option ℕ) → SocketView → SocketView
retired_in None v = v
retired_in (Some n) v = with_retired n (v.slots n) v

-- Under the next number, if there is room.
abbrev pub SettlesAnew : SocketView → (found : Option ℕ) → Slot → Verdict → Result Heard NoMemory → SocketView → Type 0
SettlesAnew v found x told (Ok (heard.Of number said)) w = ((v.room == 0) ≡ false) × (number ≡ v.next) × (said ≡ told) × (w ≡ retired_in found (begun_with x v))
SettlesAnew v found x told (Ok heard.Full) w = ((v.room == 0) ≡ true) × (w ≡ v)
SettlesAnew v found x told (Ok (heard.Nobody said)) w = ⊥
SettlesAnew v found x told (Err why) w = w ≡ v

-- In the place of the call with this number.
abbrev pub SettlesThere : SocketView → (n : ℕ) → Slot → Verdict → Result Heard NoMemory → SocketView → Type 0
SettlesThere v n x told (Ok (heard.Of number said)) w = (number ≡ n) × (said ≡ told) × (w ≡ succeeded_by n x v)
SettlesThere v n x told (Ok heard.Full) w = ⊥
SettlesThere v n x told (Ok (heard.Nobody said)) w = ⊥
SettlesThere v n x told (Err why) w = w ≡ v

-- there, or under the next number
abbrev pub SettlesAt : (there : Option ℕ) → SocketView → (found : Option ℕ) → Slot → Verdict → Result Heard NoMemory → SocketView → Type 0
SettlesAt None v found x told r w = SettlesAnew v found x told r w
SettlesAt (Some n) v found x told r w = SettlesThere v n x told r w

-- unless its tag is of another association
abbrev pub SettlesUnder : (taken : Bool) → (there : Option ℕ) → SocketView → (found : Option ℕ) → Slot → Verdict → Result Heard NoMemory → SocketView → Type 0
SettlesUnder true there v found x told r w = (r ≡ Ok (heard.Nobody (Dropped reason.Cookie))) × (w ≡ v)
SettlesUnder false there v found x told r w = SettlesAt there v found x told r w

-- An association begins with this peer, of which the socket had this.
abbrev pub Settles : SocketView → Standing → (found : Option ℕ) → Slot → Verdict → Result Heard NoMemory → SocketView → Type 0
Settles v h found x told r w = SettlesUnder (is_taken v x.own (succeeds h found)) (succeeds h found) v found x told r w

-- ---- a cookie that opens

-- what begins by a cookie with this body
abbrev pub slot_begun : (from : Peer) → Body → EndView → Slot
slot_begun from b t = record { peer = from; own = b.listener.tag; bar = b.made; current = true; end = t }

-- A listener of the peer handles the packet, and the association begins. If an allocation failed nothing changed.
abbrev pub BeginsBy : SocketView → Place → (found : Option ℕ) → (from : Peer) → Body → Draw → Packet → Result Heard NoMemory → SocketView → Type 0
BeginsBy v l found from b d p r w =
    ((t : EndView) × (y : model.Verdict) × (told : Verdict) × Receives (fresh_end l.configuration (Listener l.seal) Listening) v.moment d (Some p) t y × VerdictStands told y
    × Settles v l.standing found (slot_begun from b t) told r w)
    ⊎ ((why : NoMemory) × (r ≡ Err why) × (w ≡ v))

-- what a cookie does
abbrev pub Meets : Meeting → SocketView → Place → (found : Option ℕ) → (from : Peer) → Body → Draw → Packet → Result Heard NoMemory → SocketView → Type 0
Meets Ignored v l found from b d p r w = (r ≡ Ok (heard.Nobody (Dropped reason.Cookie))) × (w ≡ v)
Meets Begins v l found from b d p r w = BeginsBy v l found from b d p r w
Meets CallsAgain v l found from b d p r w = Settles v l.standing found (slot_called v.configuration from v.moment d) Taken r w

-- ---- to a listener

-- What a listener that is made for it, with these random values, does with it: nothing is kept unless a cookie opens.
abbrev pub ListenerHears : SocketView → Place → (found : Option ℕ) → (from : Peer) → (own fresh : Draw) → Packet → Stray → Result Heard NoMemory → SocketView → Type 0
ListenerHears v l found from own d p (stray.Dropped why) r w = (r ≡ Ok (heard.Nobody (Dropped why))) × (w ≡ v)
ListenerHears v l found from own d p (stray.Answered packet) r w = (r ≡ Ok (heard.Nobody (Answer packet))) × (w ≡ v)
ListenerHears v l found from own d p (stray.Begins content) r w =
    Meets (meets l.standing l.bar (is_taken v (content_meaning content).listener.tag found) (content_meaning content)) v l found from (content_meaning content) d p r w

-- Its answer may want memory.
abbrev pub Listens : SocketView → Place → (found : Option ℕ) → (from : Peer) → (own fresh : Draw) → Packet → Result Heard NoMemory → SocketView → Type 0
Listens v l found from own d p r w =
    ((told : Stray) × Leaves (listener_there l) own p told × ListenerHears v l found from own d p told r w)
    ⊎ ((why : NoMemory) × (r ≡ Err why) × (w ≡ v) × (is_answer (chunks_verdict (listener_there l) own p.tag p.chunks) ≡ true))

-- ---- a packet

-- by who gets it
abbrev pub Routes : Route → SocketView → Place → (found : Option ℕ) → (from : Peer) → (fresh : Draw) → Packet → Result Heard NoMemory → SocketView → Type 0
Routes Nobody v l found from d p r w = (r ≡ Ok (heard.Nobody (Dropped reason.State))) × (w ≡ v)
Routes ToEnd v l found from d p r w = EndAtHears v found from d p r w
Routes (ToListener own) v l found from d p r w = Listens v l found from own d p r w

-- a packet that is routed by this
abbrev pub HeardIn : SocketView → Place → (found : Option ℕ) → (from : Peer) → Draw → Packet → Result Heard NoMemory → SocketView → Type 0
HeardIn v l found from d p r w = Routes (routed l p.tag p.chunks) v l found from d p r w

-- a packet from this peer, for the association that is found
abbrev pub HeardFrom : SocketView → Sealing → (found : Option ℕ) → (from : Peer) → Draw → Packet → Result Heard NoMemory → SocketView → Type 0
HeardFrom v s found from d p r w = HeardIn v (place_in v s found from d) found from d p r w

-- No port of SCTP is 0 (RFC 9260, 3.1).
abbrev pub HeardAt : (unnamed : Bool) → SocketView → Sealing → Origin → Draw → Packet → Result Heard NoMemory → SocketView → Type 0
HeardAt true v s o d p r w = (r ≡ Ok (heard.Nobody (Dropped reason.Ports))) × (w ≡ v)
HeardAt false v s o d p r w = (found : Option ℕ) × Finds v p (from_of o p) o.source found × HeardFrom v s found (from_of o p) d p r w

-- A PACKET, or bytes that are none, at a socket that knows the time; each peer's cookies are sealed under this seal.
abbrev pub HeardBy : SocketView → (seals : List ℕ → Sealing) → Origin → Draw → Option Packet → Result Heard NoMemory → SocketView → Type 0
HeardBy v seals o d None r w = (r ≡ Ok (heard.Nobody (Dropped reason.Fault))) × (w ≡ v)
HeardBy v seals o d (Some p) r w = HeardAt (p.source == 0) v (seals (key_of v.master (from_of o p))) o d p r w
