-- Two endpoints that are opened without packets, set up for small packets: one full fragment in each.
use Rattle.std.proofs.Common.{ℕ, ◌≡◌, ◌<◌, ◌^◌, Bool, true, false, Some, refl, arith, None}
use Rattle.sctp_model.specs.world.Calls.{Call}
use Rattle.sctp_model.specs.end.EndView.{Draw, Tags, IsDraw}
use Rattle.sctp_model.specs.end.Configured.{IsConfiguration}
use Rattle.sctp_model.specs.end.Opening.{opened}
use Rattle.sctp_model.specs.end.UserCalls.{send_answer, send_leaves, abandoned_at, abandons}
use Rattle.sctp_model.specs.world.World.{Side, A, B, are_alike, World, with_end, with_log, logged_one, Setup, configuration_of, start}
use Rattle.sctp_model.specs.world.Events.{OpenBoth, Done}
use Rattle.sctp_model.specs.world.Steps.{accepted, named_at, Step, OpensBoth}
use Rattle.sctp_safety.proofs.machine.OpeningWorlds.{open_seal}
use Rattle.sctp_model.specs.numbers.Limits.{LEAST_WAIT, LONGEST_MESSAGE, FIRST_WAIT, LONGEST_WAIT, REPEATS, OPENING_REPEATS}

-- ---- two endpoints without packets

-- small packets, each of one full fragment
abbrev pub small : Bool → Setup
small interleave = record {
  of_a = record {
    own_port = 0;
    peer_port = 0;
    limit = 576;
    fragment = 544;
    buffer = 65536;
    outbound = 1;
    inbound = 1;
    interleave = interleave;
    partial = true;
    delay = false;
    standard_closing = false;
    fast_retransmit = false;
    least_wait = LEAST_WAIT;
    congestion_control = false;
    reset = false;
    first_wait = FIRST_WAIT;
    longest_wait = LONGEST_WAIT;
    repeats = REPEATS;
    opening_repeats = OPENING_REPEATS;
    heartbeat = None;
    progress = false;
    guard = false;
    updates = false;
    reserve = 0;
    all_blocks = false;
    growth = 1;
    cubic = false;
    longest_message = LONGEST_MESSAGE;
    queue_bytes = None;
    strict = false;
    zero_checksum = false;
  };
  of_b = record {
    own_port = 0;
    peer_port = 0;
    limit = 576;
    fragment = 544;
    buffer = 65536;
    outbound = 1;
    inbound = 1;
    interleave = interleave;
    partial = true;
    delay = false;
    standard_closing = false;
    fast_retransmit = false;
    least_wait = LEAST_WAIT;
    congestion_control = false;
    reset = false;
    first_wait = FIRST_WAIT;
    longest_wait = LONGEST_WAIT;
    repeats = REPEATS;
    opening_repeats = OPENING_REPEATS;
    heartbeat = None;
    progress = false;
    guard = false;
    updates = false;
    reserve = 0;
    all_blocks = false;
    growth = 1;
    cubic = false;
    longest_message = LONGEST_MESSAGE;
    queue_bytes = None;
    strict = false;
    zero_checksum = false;
  };
  a_port = 5000;
  b_port = 5001;
  sealing = open_seal;
}

pub small_configured : (i : Bool) (x : Side) → IsConfiguration (configuration_of (small i) x)
small_configured i A = record {
  own_port = (omega arith, omega arith);
  peer_port = (omega arith, omega arith);
  limit = (omega arith, omega arith);
  fragment = (omega arith, omega arith, omega arith);
  buffer = (omega arith, omega arith);
  outbound = (omega arith, omega arith);
  inbound = (omega arith, omega arith);
}
small_configured i B = record {
  own_port = (omega arith, omega arith);
  peer_port = (omega arith, omega arith);
  limit = (omega arith, omega arith);
  fragment = (omega arith, omega arith, omega arith);
  buffer = (omega arith, omega arith);
  outbound = (omega arith, omega arith);
  inbound = (omega arith, omega arith);
}

abbrev pub of_a : Draw
of_a = record { tag = 7; tsn = 100 }

abbrev pub of_b : Draw
of_b = record { tag = 9; tsn = 200 }

abbrev pub tags_a : Tags
tags_a = record { own = 7; peer = 9 }

abbrev pub tags_b : Tags
tags_b = record { own = 9; peer = 7 }

drawn : (n t : ℕ) → 0 < n → n < 2 ^ 32 → t < 2 ^ 32 → IsDraw (record { tag = n; tsn = t })
drawn n t some tag first = record { some = some; tag = tag; tsn = first }

-- opened, each with the other's random values
abbrev pub open_world : Bool → World
open_world i = record (start (small i)) {
  a = opened (configuration_of (small i) A) of_a of_b;
  b = opened (configuration_of (small i) B) of_b of_a;
  openable = false;
}

like : (i : Bool) → are_alike (start (small i)).a.configuration (start (small i)).b.configuration ≡ true
like true = refl
like false = refl

pub opens : (i : Bool) → Step (start (small i)) (OpenBoth of_a of_b) (Some Done) (open_world i)
opens i = OpensBoth of_a of_b (like i) refl (drawn 7 100 (omega arith) (omega arith) (omega arith)) (drawn 9 200 (omega arith) (omega arith) (omega arith))

-- the world in which A's user has sent a message, or abandoned one
abbrev pub after_send : World → Call → World
after_send w c = with_log (with_end w A (send_leaves (send_answer w.a c) w.a c)) A (accepted w A (send_answer w.a c) c)

abbrev pub after_abandon : World → ℕ → World
after_abandon w k = with_log (with_end w A (abandoned_at w.a k)) A (named_at (logged_one w A k (abandoned_at w.a k)) (abandons w.a k) k)
