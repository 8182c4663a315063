-- An endpoint of an association: its state, what it is to send, its timers, its sender and its receiver (RFC 9260, 4).
use Rattle.std.specs.Prelude.{ℕ, ◌^◌, ◌<◌, Bool, true, false, List, [], Option, Some, None}
use Rattle.sctp_model.specs.wire.Typed.{Typed}
use Rattle.sctp_model.specs.messages.Format.{Format, Plain, Interleaved}
use Rattle.sctp_model.specs.sender.SenderView.{SenderView, fresh_sender}
use Rattle.sctp_model.specs.receiver.ReceiverView.{ReceiverView, fresh_receiver}
use Rattle.sctp_model.specs.end.Sealing.{Sealing}
use Rattle.sctp_model.specs.end.Pacing.{Pace}
pub use Rattle.sctp_model.specs.end.Settings.{Configuration, send_limits, first_offer, waits_of}

-- The random values of an endpoint that begins: the tag that packets to it will carry, and the TSN of its index 1 (RFC 9260, 5.3.1 and 3.3.2).
pub record Draw : Type 0 where
  pub tag : ℕ
  pub tsn : ℕ

-- Which random values may be: a tag that isn't 0, and a first TSN, both of 32 bits (RFC 9260, 5.3.1 and 3.3.2).
pub record IsDraw (d : Draw) : Type 0 where
  pub some : 0 < d.tag
  pub tag : d.tag < 2 ^ 32
  pub tsn : d.tsn < 2 ^ 32

-- The verification tags of an association, as one endpoint sees them: packets to it carry the first, packets from it the second (RFC 9260, 8.5).
pub record Tags : Type 0 where
  pub own : ℕ
  pub peer : ℕ

-- ---- the states of an endpoint

-- How an association ended, as the endpoint itself saw it.
pub data Ended : Type 0 where
  -- both endpoints had shut it, and said so (RFC 9260, 9.2)
  Completed : Ended
  -- the peer aborted it; this endpoint or its user did (9.1)
  Aborted AbortedHere : Ended
  -- a packet was repeated as often as may be (8.1)
  TimedOut : Ended
  -- the listener found the cookie too old (5.2.6)
  StaleCookie : Ended

-- The states in which an association has both its endpoints (RFC 9260, 4).
pub data Stage : Type 0 where
  -- both users may send
  Established : Stage
  -- the user has no more to send; what waits still goes out
  ShutdownPending : Stage
  -- all was acknowledged, and SHUTDOWN is sent
  ShutdownSent : Stage
  -- the peer has no more to send; what waits here still goes out
  ShutdownReceived : Stage
  -- all was acknowledged here too, and the peer is answered
  ShutdownAckSent : Stage

-- Every state, each with what an endpoint remembers in it alone.
pub data Phase : Type 0 where
  -- CLOSED, and nothing happened yet
  Idle : Phase
  -- the listener, which remembers nothing until a cookie arrives (RFC 9260, 5.1)
  Listening : Phase
  -- COOKIE-WAIT: the caller remembers its random values
  Calling : Draw → Phase
  -- COOKIE-ECHOED: it knows both tags, and the cookie that it sends back
  Echoing : (tags : Tags) (cookie : List ℕ) → Phase
  -- the five states with both endpoints
  Open : (tags : Tags) (stage : Stage) → Phase
  -- CLOSED, and over for good
  Over : Ended → Phase

-- The states by their names, as they are reported to the user of an endpoint (RFC 9260, 4 and 11.1).
pub data State : Type 0 where
  Closed Listen CookieWait CookieEchoed : State
  -- one of the five with both endpoints
  InStage : Stage → State

-- the state of an endpoint
abbrev pub state_of : Phase → State
state_of Idle = Closed
state_of Listening = Listen
state_of (Calling d) = CookieWait
state_of (Echoing t xs) = CookieEchoed
state_of (Open t g) = InStage g
state_of (Over why) = Closed

-- how its association ended, once it has
abbrev pub ended_of : Phase → Option Ended
ended_of (Over why) = Some why
ended_of h = None

-- How an endpoint began: it calls, it listens and has a seal for its cookies, or it was opened together with its peer, without packets.
pub data Role : Type 0 where
  Caller : Role
  Listener : (seal : Sealing) → Role
  Paired : Role

-- ---- what both endpoints agreed on

-- The first TSNs, the streams out of and into this endpoint, and what is turned on: I-DATA, partial reliability (RFC 9260, 5.1.1; RFC 8260, 2.2.1; RFC
-- 3758, 3.1).
pub record Terms : Type 0 where
  pub own_tsn : ℕ
  pub peer_tsn : ℕ
  pub outbound : ℕ
  pub inbound : ℕ
  pub interleave : Bool
  pub partial : Bool
  -- RE-CONFIG (RFC 6525)
  pub reset : Bool
  -- packets with the checksum 0 (RFC 9653)
  pub zero_checksum : Bool

-- before an association
abbrev pub no_terms : Terms
no_terms = record {
  own_tsn = 0;
  peer_tsn = 0;
  outbound = 0;
  inbound = 0;
  interleave = false;
  partial = false;
  reset = false;
  zero_checksum = false;
}

-- the format, by whether I-DATA is on
abbrev pub format_for : Bool → Format
format_for true = Interleaved
format_for false = Plain

-- ---- what is due

-- What goes into an endpoint's next packets, in the order in which a packet is filled (RFC 9260, 6.10).
pub record Due : Type 0 where
  pub init : Bool
  pub cookie_echo : Bool
  pub cookie_ack : Bool
  -- the value that the last HEARTBEAT asks back (8.3)
  pub heartbeat : Option (List ℕ)
  -- a HEARTBEAT of its own (8.3)
  pub beat : Bool
  -- what is to be reported to the peer in one ERROR (3.3.10)
  pub causes : List Typed
  pub sack : Bool
  -- FORWARD-TSN, or I-FORWARD-TSN with I-DATA on (RFC 3758, 3.5; RFC 8260, 2.3.1)
  pub forward : Bool
  -- a request to reset streams (RFC 6525, 5.1)
  pub request : Bool
  pub shutdown : Bool
  pub shutdown_ack : Bool

-- nothing at all
abbrev pub nothing_due : Due
nothing_due = record {
  init = false;
  cookie_echo = false;
  cookie_ack = false;
  heartbeat = None;
  beat = false;
  causes = [];
  sack = false;
  forward = false;
  request = false;
  shutdown = false;
  shutdown_ack = false;
}

-- ---- timers

-- One for each kind of packet that is retransmitted until it is answered: INIT, COOKIE ECHO, data or FORWARD, SHUTDOWN, SHUTDOWN ACK,
-- a request to reset streams (RFC 9260, 5.1, 6.3 and 9.2; RFC 6525, 5.1.1); and one each for HEARTBEATs and for closing as a whole (RFC 9260, 8.3 and 9.2).
pub data Alarm : Type 0 where
  InitAlarm CookieAlarm : Alarm
  DataAlarm : Alarm
  ShutdownAlarm AckAlarm : Alarm
  ResetAlarm : Alarm
  BeatAlarm GuardAlarm : Alarm

-- A timer, in milliseconds: how long it will wait when it starts next, how many times it expired since all was well, and the time at which it expires while
-- it runs.
pub record Timer : Type 0 where
  pub wait : ℕ
  pub repeats : ℕ
  pub expiry : Option ℕ

-- a timer that never ran, with this first wait
abbrev pub unused_timer : (first : ℕ) → Timer
unused_timer first = record { wait = first; repeats = 0; expiry = None }

-- ---- heartbeats

-- The endpoint's own HEARTBEATs: how many it made, and the time at which the last one was sent, until it is answered (RFC 9260, 8.3).
pub record Beats : Type 0 where
  pub made : ℕ
  pub sent : Option ℕ

-- before the first
abbrev pub no_beats : Beats
no_beats = record { made = 0; sent = None }

-- ---- the endpoint

-- An endpoint. Terms, sender and receiver belong to the association: until there is one they are empty, so that no message and no ticket is reported to its
-- user; once it is over they stay for its user to read.
pub record EndView : Type 0 where
  pub configuration : Configuration
  pub role : Role
  pub phase : Phase
  -- the latest time that it was given
  pub moment : ℕ
  pub due : Due
  pub timers : Alarm → Timer
  -- the time at which a delayed SACK is due, while one is delayed (RFC 9260, 6.2)
  pub delayed : Option ℕ
  -- the window that it advertised last, by a SACK or its INIT (RFC 9260, 3.3.4)
  pub offered : ℕ
  -- its state of round trips, misses and congestion control, if it is set up for them (RFC 9260, 6.3.1 and 7.2)
  pub pace : Option Pace
  pub beats : Beats
  pub terms : Terms
  pub sender : SenderView
  pub receiver : ReceiverView

-- an endpoint as it is made, in CLOSED or listening
abbrev pub fresh_end : Configuration → Role → Phase → EndView
fresh_end c r h = record {
  configuration = c;
  role = r;
  phase = h;
  moment = 0;
  due = nothing_due;
  timers = λ a. unused_timer c.first_wait;
  delayed = None;
  offered = first_offer c;
  pace = None;
  beats = no_beats;
  terms = no_terms;
  sender = fresh_sender 0 0 c.fragment 0 false (send_limits c);
  receiver = fresh_receiver 0 0 c.buffer c.reserve;
}

-- the format of user data
abbrev pub format_of : EndView → Format
format_of e = format_for e.terms.interleave

-- It has something to do with a peer: it is neither closed nor waiting for a call.
abbrev pub has_association : Phase → Bool
has_association (Calling d) = true
has_association (Echoing t xs) = true
has_association (Open t g) = true
has_association h = false
