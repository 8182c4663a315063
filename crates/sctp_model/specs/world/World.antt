-- The world of two endpoints: a caller and a listener, all packets that either ever built, a clock for each, and the random numbers for what arrives next.
use Rattle.std.specs.Prelude.{min, max, ℕ, zero, suc, Bool, true, false, not, ◌&&◌, ◌==◌, if◌then◌else◌, List, [], ◌∷◌, ◌++◌, Option, None, Some}
use Rattle.sctp_model.specs.wire.Packet.{Packet}
use Rattle.sctp_model.specs.world.Calls.{Call}
use Rattle.sctp_model.specs.sender.SenderView.{SenderView}
use Rattle.sctp_model.specs.sender.Readers.{abandoned}
use Rattle.sctp_model.specs.end.Sealing.{Sealing}
use Rattle.sctp_model.specs.end.EndView.{Configuration, Draw, Idle, Listening, Caller, Listener, EndView, fresh_end}
use Rattle.sctp_model.specs.end.Pacing.{Pace}
use Rattle.sctp_model.specs.end.Clock.{at_moment}

-- Which of the two: A calls, B listens (RFC 9260, 5.1).
pub data Side : Type 0 where
  A B : Side

-- the endpoint across
abbrev pub other : Side → Side
other A = B
other B = A

-- What is remembered of an endpoint's user: the calls of `send` that were accepted, by ticket; the tickets of the messages that its calls of `abandon` gave
-- up; and those of the messages that were abandoned, in the order of the events that did it, those of one event by rising ticket.
pub record Log : Type 0 where
  pub calls : List Call
  pub named : ℕ → Bool
  pub order : List ℕ

-- The network loses nothing for good: every packet of an endpoint stays in its bag, and may arrive at any time, often, or never. `openable` says whether
-- both endpoints may still be opened without packets: neither has called, nor was anything delivered. Each endpoint has a clock of its own, in
-- milliseconds; nothing compares the two.
pub record World : Type 0 where
  pub a : EndView
  pub b : EndView
  pub from_a : List Packet
  pub from_b : List Packet
  pub log_a : Log
  pub log_b : Log
  pub clock_a : ℕ
  pub clock_b : ℕ
  pub draw : Draw
  pub openable : Bool

-- ---- by side

-- the endpoint of a side
abbrev pub end_of : World → Side → EndView
end_of w A = w.a
end_of w B = w.b

-- its bag, oldest packet first
abbrev pub bag_of : World → Side → List Packet
bag_of w A = w.from_a
bag_of w B = w.from_b

-- its user's log
abbrev pub log_of : World → Side → Log
log_of w A = w.log_a
log_of w B = w.log_b

-- its clock
abbrev pub clock_of : World → Side → ℕ
clock_of w A = w.clock_a
clock_of w B = w.clock_b

-- another endpoint in its place
abbrev pub with_end : World → Side → EndView → World
with_end w A e = record w { a = e }
with_end w B e = record w { b = e }

-- a packet more in its bag
abbrev pub with_packet : World → Side → Packet → World
with_packet w A p = record w { from_a = w.from_a ++ p ∷ [] }
with_packet w B p = record w { from_b = w.from_b ++ p ∷ [] }

-- another log in its place
abbrev pub with_log : World → Side → Log → World
with_log w A l = record w { log_a = l }
with_log w B l = record w { log_b = l }

-- its clock goes on to this time; a time before its own changes nothing
abbrev pub with_clock : World → Side → ℕ → World
with_clock w A m = record w { clock_a = max w.clock_a m }
with_clock w B m = record w { clock_b = max w.clock_b m }

-- the endpoint at the time of its clock
abbrev pub end_now : World → Side → EndView
end_now w s = at_moment (end_of w s) (clock_of w s)

-- ---- the order of abandoning

-- the ticket, if its message was abandoned between two views of its sender
abbrev pub if_newly_abandoned : SenderView → SenderView → (ticket : ℕ) → List ℕ
if_newly_abandoned v u t = if abandoned u t && not (abandoned v t) then t ∷ [] else []

-- those from 1 to n, rising
abbrev pub newly_abandoned : SenderView → SenderView → (n : ℕ) → List ℕ
newly_abandoned v u zero = []
newly_abandoned v u (suc n) = newly_abandoned v u n ++ if_newly_abandoned v u (suc n)

-- a log that goes on with these tickets
abbrev pub with_order : Log → List ℕ → Log
with_order l tickets = record l { order = l.order ++ tickets }

-- the log of an endpoint that a time or a packet left like this: it may be too late for some of its messages, or some may not be retransmitted again
abbrev pub logged : World → Side → EndView → Log
logged w s t = with_order (log_of w s) (newly_abandoned (end_of w s).sender t.sender t.sender.tickets)

-- the log of an endpoint that a call of `abandon` left like this, which abandons the message of its ticket alone
abbrev pub logged_one : World → Side → (ticket : ℕ) → EndView → Log
logged_one w s k t = with_order (log_of w s) (if_newly_abandoned (end_of w s).sender t.sender k)

-- ---- what arrives

-- The order after a packet that left an endpoint like this: with a pace it may have abandoned messages at the packet's end; without one it abandons none there.
abbrev pub order_heard : Option Pace → World → Side → EndView → List ℕ
order_heard None w s t = (log_of w s).order
order_heard (Some p) w s t = (logged w s t).order

-- its log
abbrev pub logged_packet : World → Side → EndView → Log
logged_packet w s t = record (log_of w s) { order = order_heard t.pace w s t }

-- A packet arrived at the endpoint, and left it like this: from now on `open` is refused.
abbrev pub came : World → Side → EndView → World
came w A e = record w { a = e; log_a = logged_packet w A e; openable = false }
came w B e = record w { b = e; log_b = logged_packet w B e; openable = false }

-- ---- START

-- How two endpoints are set up: each by a configuration of its own; the port of each is the other's peer port, and the listener has the seal.
pub record Setup : Type 0 where
  pub of_a : Configuration
  pub of_b : Configuration
  pub a_port : ℕ
  pub b_port : ℕ
  pub sealing : Sealing

-- what the endpoint of a side is set up with
abbrev pub configuration_of : Setup → Side → Configuration
configuration_of s A = record (s.of_a) { own_port = s.a_port; peer_port = s.b_port }
configuration_of s B = record (s.of_b) { own_port = s.b_port; peer_port = s.a_port }

-- both have an option, or neither has it
abbrev pub is_shared : Bool → Bool → Bool
is_shared a b = if a then b else not b

-- They may be opened without packets, since they would agree: on as many streams each way, on the format, and on partial reliability, stream reset and zero
-- checksums, which both have or neither has (RFC 9260, 5.1.1).
abbrev pub are_alike : Configuration → Configuration → Bool
are_alike c d =
    (min d.outbound d.inbound == min c.outbound c.inbound) &&
    (is_shared d.interleave c.interleave
    && (is_shared d.partial c.partial && (is_shared d.reset c.reset && is_shared d.zero_checksum c.zero_checksum)))

-- a user who has asked for nothing yet
abbrev pub no_log : Log
no_log = record { calls = []; named = λ t. false; order = [] }

-- the random values before any others are handed in
abbrev pub FIRST_DRAW : Draw
FIRST_DRAW = record { tag = 1; tsn = 1 }

-- START: two endpoints that nothing has happened to, and nothing between them.
abbrev pub start : Setup → World
start s = record {
  a = fresh_end (configuration_of s A) Caller Idle;
  b = fresh_end (configuration_of s B) (Listener s.sealing) Listening;
  from_a = [];
  from_b = [];
  log_a = no_log;
  log_b = no_log;
  clock_a = 0;
  clock_b = 0;
  draw = FIRST_DRAW;
  openable = true;
}
