-- The opening's worlds, one after the other, and what each event is answered.
use Rattle.std.proofs.Common.{◌≡◌, ℕ, Bool, true, false, List, [], ◌∷◌, ◌++◌, replicate, Option, Some, None, refl, ap, ◌==◌, ◌∙◌}
use Rattle.sctp_model.specs.wire.Chunk.{InitMeaning, ChunkMeaning, InitAck, CookieEcho, CookieAck}
use Rattle.sctp_model.specs.wire.Packet.{Packet, size_of_packet}
use Rattle.sctp_model.specs.end.Sealing.{Body, Sealing}
use Rattle.sctp_model.specs.end.EndView.{Draw, Tags, EndView, InitAlarm, CookieAlarm}
use Rattle.sctp_model.specs.end.Clock.{started}
use Rattle.sctp_model.specs.end.Closing.{with_due}
use Rattle.sctp_model.specs.end.Reports.{written, item}
use Rattle.sctp_model.specs.end.Options.{STATE_COOKIE, own_options}
use Rattle.sctp_model.specs.end.PeerFaults.{packet_to}
use Rattle.sctp_model.specs.end.Opening.{own_init, body_for, echoing, begun, acknowledged_echo}
use Rattle.sctp_model.specs.end.Strays.{stray_verdict}
use Rattle.sctp_model.specs.end.Building.{sent, packet_of}
use Rattle.sctp_model.specs.end.UserCalls.{called}
use Rattle.sctp_model.specs.world.World.{A, B, World, with_end, with_packet, end_now, came, Setup, configuration_of, start}
use Rattle.sctp_model.specs.world.Events.{with_verdict, told, Event, Drawing, Connect, Build, Deliver, Outcome, Done, Sent, Acted}
use Rattle.sctp_model.specs.numbers.Limits.{LEAST_WAIT, LONGEST_MESSAGE, FIRST_WAIT, LONGEST_WAIT, REPEATS, OPENING_REPEATS}

-- ---- a seal that hides nothing: the numbers of the body one after the other

abbrev pub bit : Bool → ℕ
bit true = 1
bit false = 0

abbrev pub numbers : Body → List ℕ
numbers b =
    b.made ∷ b.listener.port ∷ b.caller.port ∷ b.listener.tag ∷ b.caller.tag ∷ b.listener.tsn ∷ b.caller.tsn ∷ b.rwnd
    ∷ b.to_caller ∷ b.from_caller ∷ bit b.partial ∷ bit b.interleave ∷ bit b.reset ∷ bit b.zero_checksum ∷ replicate 58 0

abbrev pub read : List ℕ → Option Body
read (made ∷ lp ∷ cp ∷ lt ∷ ct ∷ ln ∷ cn ∷ rwnd ∷ to ∷ from ∷ p ∷ i ∷ z ∷ o ∷ more) = Some (record {
  made = made;
  listener = record { port = lp; tag = lt; tsn = ln };
  caller = record { port = cp; tag = ct; tsn = cn };
  rwnd = rwnd;
  to_caller = to;
  from_caller = from;
  partial = p == 1;
  interleave = i == 1;
  reset = z == 1;
  zero_checksum = o == 1;
})
read xs = None

pub reads_back : (b : Body) → read (numbers b) ≡ Some b
reads_back b =
    ap (λ (p : Bool). Some (record b { partial = p; interleave = bit b.interleave == 1; reset = bit b.reset == 1; zero_checksum = bit b.zero_checksum == 1 })) (back b.partial)
    ∙ ap (λ (i : Bool). Some (record b { interleave = i; reset = bit b.reset == 1; zero_checksum = bit b.zero_checksum == 1 })) (back b.interleave)
    ∙ ap (λ (i : Bool). Some (record b { reset = i; zero_checksum = bit b.zero_checksum == 1 })) (back b.reset)
    ∙ ap (λ (i : Bool). Some (record b { zero_checksum = i })) (back b.zero_checksum)
  where
    back : (x : Bool) → (bit x == 1) ≡ x
    back true = refl
    back false = refl

abbrev pub open_seal : Sealing
open_seal = record { sealed = numbers; opened = read; size = λ b. refl; opens = λ b r. reads_back b }

-- ---- the run

abbrev pub two : Setup
two = record {
  of_a = record {
    own_port = 0;
    peer_port = 0;
    limit = 1200;
    fragment = 1000;
    buffer = 65536;
    outbound = 2;
    inbound = 3;
    interleave = true;
    partial = true;
    delay = false;
    standard_closing = false;
    fast_retransmit = false;
    least_wait = LEAST_WAIT;
    congestion_control = false;
    reset = true;
    first_wait = FIRST_WAIT;
    longest_wait = LONGEST_WAIT;
    repeats = REPEATS;
    opening_repeats = OPENING_REPEATS;
    heartbeat = None;
    progress = false;
    guard = false;
    updates = false;
    reserve = 0;
    all_blocks = false;
    growth = 1;
    cubic = false;
    longest_message = LONGEST_MESSAGE;
    queue_bytes = None;
    strict = false;
    zero_checksum = false;
  };
  of_b = record {
    own_port = 0;
    peer_port = 0;
    limit = 1200;
    fragment = 1000;
    buffer = 65536;
    outbound = 2;
    inbound = 3;
    interleave = true;
    partial = true;
    delay = false;
    standard_closing = false;
    fast_retransmit = false;
    least_wait = LEAST_WAIT;
    congestion_control = false;
    reset = true;
    first_wait = FIRST_WAIT;
    longest_wait = LONGEST_WAIT;
    repeats = REPEATS;
    opening_repeats = OPENING_REPEATS;
    heartbeat = None;
    progress = false;
    guard = false;
    updates = false;
    reserve = 0;
    all_blocks = false;
    growth = 1;
    cubic = false;
    longest_message = LONGEST_MESSAGE;
    queue_bytes = None;
    strict = false;
    zero_checksum = false;
  };
  a_port = 5000;
  b_port = 5001;
  sealing = open_seal;
}

abbrev pub of_a : Draw
of_a = record { tag = 7; tsn = 100 }

abbrev pub of_b : Draw
of_b = record { tag = 9; tsn = 200 }

abbrev pub tags_a : Tags
tags_a = record { own = 7; peer = 9 }

abbrev pub opening : List Event
opening = Connect of_a ∷ Build A ∷ Drawing of_b ∷ Deliver A 1 ∷ Deliver B 1 ∷ Build A ∷ Deliver A 2 ∷ Build B ∷ Deliver B 2 ∷ []

abbrev pub w0 : World
w0 = start two

-- the caller calls
abbrev pub w1 : World
w1 = record w0 { a = called (end_now w0 A) of_a; openable = false }

abbrev pub init : ChunkMeaning
init = own_init (configuration_of two A) of_a

abbrev pub w2 : World
w2 = with_packet (with_end w1 A (started InitAlarm (with_due (record (end_now w1 A).due { init = false }) (end_now w1 A)))) A (packet_of w1.a (init ∷ []))

abbrev pub w3 : World
w3 = record w2 { draw = of_b }

-- the listener answers
abbrev pub init_meaning : InitMeaning
init_meaning = record { tag = 7; rwnd = 65536; outbound = 2; inbound = 3; tsn = 100; parameters = written (own_options (configuration_of two A)) }

abbrev pub packet_1 : Packet
packet_1 = packet_of w1.a (init ∷ [])

abbrev pub w4 : World
w4 = with_verdict (came w3 B (end_now w3 B)) B (stray_verdict (end_now w3 B) of_b packet_1)

-- the caller echoes the cookie
abbrev pub cookie : List ℕ
cookie = numbers (body_for (end_now w3 B) of_b init_meaning)

abbrev pub ack_meaning : InitMeaning
ack_meaning = record {
  tag = 9;
  rwnd = 65536;
  outbound = 2;
  inbound = 3;
  tsn = 200;
  parameters = written (item STATE_COOKIE cookie ∷ (own_options (configuration_of two B) ++ []));
}

abbrev pub packet_2 : Packet
packet_2 = packet_to (configuration_of two B) 7 (InitAck ack_meaning)

abbrev pub echoes : EndView
echoes = echoing (end_now w4 A) of_a ack_meaning cookie

abbrev pub w5 : World
w5 = came w4 A echoes

abbrev pub echoed : EndView
echoed = started CookieAlarm (with_due (record (end_now w5 A).due { cookie_echo = false }) (end_now w5 A))

abbrev pub packet_3 : Packet
packet_3 = packet_of w5.a (CookieEcho cookie ∷ [])

abbrev pub w6 : World
w6 = with_packet (with_end w5 A echoed) A packet_3

-- the listener begins
abbrev pub begins : EndView
begins = begun (body_for (end_now w3 B) of_b init_meaning) (end_now w6 B)

abbrev pub w7 : World
w7 = came w6 B begins

abbrev pub acked : EndView
acked = with_due (record (end_now w7 B).due { cookie_ack = false }) (end_now w7 B)

abbrev pub packet_4 : Packet
packet_4 = packet_of w7.b (CookieAck ∷ [])

abbrev pub w8 : World
w8 = with_packet (with_end w7 B (sent acked (CookieAck ∷ []))) B packet_4

-- and so does the caller
abbrev pub w9 : World
w9 = came w8 A (acknowledged_echo tags_a (end_now w8 A))

abbrev pub answers : List (Option Outcome)
answers =
    Some Done ∷ Some (Sent 1 (size_of_packet (init ∷ []))) ∷ Some Done ∷ Some (told w3 B (stray_verdict (end_now w3 B) of_b packet_1)) ∷ Some Acted
    ∷ Some (Sent 2 (size_of_packet (CookieEcho cookie ∷ []))) ∷ Some Acted ∷ Some (Sent 2 (size_of_packet (CookieAck ∷ []))) ∷ Some Acted ∷ []
