-- A socket: its associations, found by their numbers, by this side's verification tags and by their peers (RFC 6458, 3; RFC 9260, 5.2 and 8.5).
use Rattle.std.specs.Prelude.{◌≡◌, ℕ, ◌+◌, ◌-◌, max, Bool, true, false, ◌==◌, if◌then◌else◌, List, [], ◌∷◌, ◌++◌, Option, Some, None, is_some}
use Rattle.std.specs.Str.{bytes_eq}
use Rattle.sctp_model.specs.end.EndView.{Configuration, Draw, EndView, Caller, Idle, fresh_end}
use Rattle.sctp_model.specs.end.Clock.{at_moment}
use Rattle.sctp_model.specs.end.UserCalls.{called}
use Rattle.sctp_socket.specs.Peers.{text_of}
use Rattle.sctp_socket.specs.Routing.{standing_in}
use Rattle.sctp_socket.specs.Tags.{is_another}
use Rattle.sctp_socket.specs.declared.peer.Peer.{Peer}
use Rattle.sctp_socket.specs.declared.meeting.Standing.{Standing}
use Rattle.sctp_socket.specs.declared.meeting.Standing.TheVariants.{Apart, Called, Echoed, Joined}

-- An association: where its packets go, its own verification tag, the time up to which cookies of its peer begin nothing, whether it isn't over by a restart of the peer, and its
-- endpoint.
pub record Slot : Type 0 where
  pub peer : Peer
  pub own : ℕ
  pub bar : ℕ
  pub current : Bool
  pub end : EndView

-- A socket: the configuration of its endpoints but for the peer's port, the master key, how many associations may still begin, the latest time that it was given, the number of the
-- next association; the associations by number, by verification tag and, the latest ones, by peer; and the numbers of those that send, in turn.
pub record SocketView : Type 0 where
  pub configuration : Configuration
  pub master : List ℕ
  pub room : ℕ
  pub moment : ℕ
  pub next : ℕ
  pub slots : ℕ → Option Slot
  pub tagged : ℕ → Option ℕ
  pub latest : Peer → Option ℕ
  pub turns : List ℕ

-- ---- what it knows

-- the same peer: peers have other texts
abbrev pub is_same_peer : Peer → Peer → Bool
is_same_peer p q = bytes_eq (text_of p) (text_of q)

-- the configuration of an endpoint with a peer at this port
abbrev pub with_port : Configuration → (port : ℕ) → Configuration
with_port c port = record c { peer_port = port }

-- what there is with an association's peer
abbrev pub standing_of : Option Slot → Standing
standing_of None = Apart
standing_of (Some x) = standing_in x.end.phase

-- the time up to which cookies begin nothing
abbrev pub bar_of : Option Slot → Option ℕ
bar_of None = None
bar_of (Some x) = Some x.bar

-- the association with this number, if there is a number
abbrev pub slot_at : SocketView → Option ℕ → Option Slot
slot_at v None = None
slot_at v (Some n) = v.slots n

-- the tag is of an association, also of one that is over, other than this one, if there is one
abbrev pub is_taken : SocketView → (tag : ℕ) → (number : Option ℕ) → Bool
is_taken v tag number = is_another (v.tagged tag) number

-- ---- what changes

-- another value at this number
abbrev pub put : {X : Type 0} → ℕ → X → (ℕ → X) → ℕ → X
put n x f = λ i. if n == i then x else f i

-- another value at this peer
abbrev pub put_peer : {X : Type 0} → Peer → X → (Peer → X) → Peer → X
put_peer p x f = λ q. if is_same_peer p q then x else f q

-- the socket, given a time: one before its own counts as its own
abbrev pub at_time : SocketView → (now : ℕ) → SocketView
at_time v now = record v { moment = max v.moment now }

-- the association with this number is this one
abbrev pub with_slot : ℕ → Slot → SocketView → SocketView
with_slot n x v = record v { slots = put n (Some x) v.slots }

-- An association more, under the next number.
abbrev pub begun_with : Slot → SocketView → SocketView
begun_with x v = record v {
  room = v.room - 1;
  next = v.next + 1;
  slots = put v.next (Some x) v.slots;
  tagged = put x.own (Some v.next) v.tagged;
  latest = put_peer x.peer (Some v.next) v.latest;
  turns = v.turns ++ v.next ∷ [];
}

-- An association in the place of the call with this number: its tag is of this number, too.
abbrev pub succeeded_by : ℕ → Slot → SocketView → SocketView
succeeded_by n x v = record v { slots = put n (Some x) v.slots; tagged = put x.own (Some n) v.tagged }

-- its peer has restarted: it is over for its user
abbrev pub retired : Slot → Slot
retired x = record x { current = false }

-- the same, if there is one
abbrev pub with_retired : ℕ → Option Slot → SocketView → SocketView
with_retired n None v = v
with_retired n (Some x) v = with_slot n (retired x) v

-- an endpoint that has called at this time
abbrev pub caller_at : Configuration → (port now : ℕ) → Draw → EndView
caller_at c port now d = called (at_moment (fresh_end (with_port c port) Caller Idle) now) d

-- a call to this peer: cookies that were made up to now begin nothing
abbrev pub slot_called : Configuration → Peer → (now : ℕ) → Draw → Slot
slot_called c p now d = record { peer = p; own = d.tag; bar = now; current = true; end = caller_at c p.port now d }

-- ---- as it is made

-- without an association
abbrev pub new_socket : Configuration → (master : List ℕ) → (most : ℕ) → SocketView
new_socket c master most = record {
  configuration = c;
  master = master;
  room = most;
  moment = 0;
  next = 1;
  slots = λ n. None;
  tagged = λ tag. None;
  latest = λ p. None;
  turns = [];
}
