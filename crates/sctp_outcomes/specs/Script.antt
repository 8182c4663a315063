-- A script from first to last: two endpoints open by packets, a message is sent, and they close. Every packet that is delivered arrives twice, as networks
-- may do.
use Rattle.std.specs.Prelude.{◌≡◌, false, List, [], ◌∷◌, Option, Some, None}
use Rattle.sctp_model.specs.messages.Format.{ordered_lane}
use Rattle.sctp_model.specs.world.Calls.{Call}
use Rattle.sctp_model.specs.receiver.ReceiverView.{Handed, handed}
use Rattle.sctp_model.specs.end.Sealing.{Sealing}
use Rattle.sctp_model.specs.end.EndView.{Completed, Over}
use Rattle.sctp_model.specs.end.PeerFaults.{STATE}
use Rattle.sctp_model.specs.end.UserCalls.{Ticket}
use Rattle.sctp_model.specs.world.World.{A, B, World, Setup, start}
use Rattle.sctp_model.specs.world.Events.{Event, Drawing, Connect, Build, Deliver, Send, Take, Shutdown, Outcome, Done, Sent, Acted, Answered, NotActed}
use Rattle.sctp_model.specs.world.Events.{Told, Message}
use Rattle.sctp_model.specs.world.Steps.{Run}
use Rattle.sctp_model.specs.numbers.Limits.{LEAST_WAIT, LONGEST_MESSAGE, FIRST_WAIT, LONGEST_WAIT, REPEATS, OPENING_REPEATS}

-- packets of at most 1,500 bytes, fragments of 1,400, a buffer of 65,536, one stream each way, DATA without partial reliability
abbrev pub script_setup : Sealing → Setup
script_setup sealing = record {
  of_a = record {
    own_port = 0;
    peer_port = 0;
    limit = 1500;
    fragment = 1400;
    buffer = 65536;
    outbound = 1;
    inbound = 1;
    interleave = false;
    partial = false;
    delay = false;
    standard_closing = false;
    fast_retransmit = false;
    least_wait = LEAST_WAIT;
    congestion_control = false;
    reset = false;
    first_wait = FIRST_WAIT;
    longest_wait = LONGEST_WAIT;
    repeats = REPEATS;
    opening_repeats = OPENING_REPEATS;
    heartbeat = None;
    progress = false;
    guard = false;
    updates = false;
    reserve = 0;
    all_blocks = false;
    growth = 1;
    cubic = false;
    longest_message = LONGEST_MESSAGE;
    queue_bytes = None;
    strict = false;
    zero_checksum = false;
  };
  of_b = record {
    own_port = 0;
    peer_port = 0;
    limit = 1500;
    fragment = 1400;
    buffer = 65536;
    outbound = 1;
    inbound = 1;
    interleave = false;
    partial = false;
    delay = false;
    standard_closing = false;
    fast_retransmit = false;
    least_wait = LEAST_WAIT;
    congestion_control = false;
    reset = false;
    first_wait = FIRST_WAIT;
    longest_wait = LONGEST_WAIT;
    repeats = REPEATS;
    opening_repeats = OPENING_REPEATS;
    heartbeat = None;
    progress = false;
    guard = false;
    updates = false;
    reserve = 0;
    all_blocks = false;
    growth = 1;
    cubic = false;
    longest_message = LONGEST_MESSAGE;
    queue_bytes = None;
    strict = false;
    zero_checksum = false;
  };
  a_port = 5000;
  b_port = 5001;
  sealing = sealing;
}

-- "Hi"
abbrev pub greeting : Call
greeting = record { lane = ordered_lane 0; payload = 0; bytes = 72 ∷ 105 ∷ []; until = None; limit = None }

-- it, as B's user takes it: the first fragment is index 1, the first number of its stream 0 (RFC 9260, 6.5)
abbrev pub arrived : Handed
arrived = record { first = 1; lane = ordered_lane 0; number = Some 0; payload = 0; bytes = 72 ∷ 105 ∷ [] }

-- ---- what happens, and what is reported: packets by their number in the bag, and their length in bytes

-- INIT, INIT ACK (108 bytes), COOKIE ECHO, COOKIE ACK
abbrev pub opening_events : List Event
opening_events =
    Connect (record { tag = 7; tsn = 100 }) ∷ Build A ∷ Drawing (record { tag = 9; tsn = 500 }) ∷ Deliver A 1 ∷ Deliver A 1 ∷ Deliver B 1 ∷ Deliver B 1
    ∷ Build A ∷ Deliver A 2 ∷ Deliver A 2 ∷ Build B ∷ Deliver B 3 ∷ Deliver B 3 ∷ []

-- the first INIT ACK is taken, and the first COOKIE ACK; a COOKIE ECHO that arrives again is acknowledged again
abbrev pub opening_told : List (Option Outcome)
opening_told =
    Some Done ∷ Some (Sent 1 32) ∷ Some Done ∷ Some (Answered 1 108) ∷ Some (Answered 2 108) ∷ Some Acted ∷ Some (NotActed STATE)
    ∷ Some (Sent 2 88) ∷ Some Acted ∷ Some Acted ∷ Some (Sent 3 16) ∷ Some Acted ∷ Some (NotActed STATE) ∷ []

-- DATA, and a SACK that notes the duplicate
abbrev pub sending_events : List Event
sending_events = Send A greeting ∷ Build A ∷ Deliver A 3 ∷ Deliver A 3 ∷ Build B ∷ Deliver B 4 ∷ Deliver B 4 ∷ Take B 0 ∷ []

-- DATA and SACK take 32 bytes each; both times that each of them arrives it acts, the second DATA as a duplicate (RFC 9260, 6.2)
abbrev pub sending_told : List (Option Outcome)
sending_told = Some (Told (Ticket 1)) ∷ Some (Sent 3 32) ∷ Some Acted ∷ Some Acted ∷ Some (Sent 4 32) ∷ Some Acted ∷ Some Acted ∷ Some (Message arrived) ∷ []

-- SHUTDOWN, SHUTDOWN ACK, SHUTDOWN COMPLETE: a closed endpoint answers a SHUTDOWN ACK too, and drops a SHUTDOWN COMPLETE
abbrev pub closing_events : List Event
closing_events = Shutdown A ∷ Build A ∷ Deliver A 4 ∷ Deliver A 4 ∷ Build B ∷ Deliver B 5 ∷ Deliver B 5 ∷ Deliver A 5 ∷ Deliver A 5 ∷ []

-- SHUTDOWN takes 20 bytes, the others 16; the SHUTDOWN COMPLETE that arrives again finds B closed (RFC 9260, 9.2 and 8.4)
abbrev pub closing_told : List (Option Outcome)
closing_told =
    Some Done ∷ Some (Sent 4 20) ∷ Some Acted ∷ Some Acted ∷ Some (Sent 5 16) ∷ Some (Answered 5 16) ∷ Some (Answered 6 16) ∷ Some Acted
    ∷ Some (NotActed STATE) ∷ []

-- So the script runs, and after it both endpoints are completed and the message was delivered.
pub record TheScriptRuns : Type 0 where
  pub sealing : Sealing
  pub opened : World
  pub told : World
  pub last : World
  pub opening : Run (start (script_setup sealing)) opening_events opening_told opened
  pub sending : Run opened sending_events sending_told told
  pub closing : Run told closing_events closing_told last
  pub a : last.a.phase ≡ Over Completed
  pub b : last.b.phase ≡ Over Completed
  pub message : handed last.b.receiver 0 ≡ arrived ∷ []
