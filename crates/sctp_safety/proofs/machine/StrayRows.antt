-- What is answered outside of an association, row by row, with the bytes written by hand (RFC 9260, 5.1, 5.2.6, 8.4 and 8.5.1).
use Rattle.std.proofs.Common.{◌≡◌, ℕ, true, false, List, [], ◌∷◌, Some, None, refl}
use Rattle.sctp_model.specs.numbers.Numbers.{u16_bytes, u32_bytes}
use Rattle.sctp_model.specs.wire.Chunk.{ChunkMeaning, Init, Heartbeat, Abort, ShutdownAck, ShutdownComplete, CookieEcho, CookieAck, Error}
use Rattle.sctp_model.specs.wire.Packet.{Packet}
use Rattle.sctp_model.specs.end.Sealing.{Body}
use Rattle.sctp_model.specs.end.EndView.{Idle, Listening, Caller, Listener, EndView, fresh_end}
use Rattle.sctp_model.specs.end.Clock.{at_moment}
use Rattle.sctp_model.specs.end.Strays.{Dropped, Answer, stray_verdict, opened_by}
use Rattle.sctp_model.specs.world.World.{B, configuration_of}
use Rattle.sctp_safety.proofs.machine.OpeningWorlds.{two, of_b, open_seal, numbers}

abbrev listener : ℕ → EndView
listener now = at_moment (fresh_end (configuration_of two B) (Listener open_seal) Listening) now

abbrev to_b : ℕ → List ChunkMeaning → Packet
to_b tag chunks = record { source = 5000; destination = 5001; tag = tag; chunks = chunks }

abbrev to_a : ℕ → ChunkMeaning → Packet
to_a tag chunk = record { source = 5001; destination = 5000; tag = tag; chunks = chunk ∷ [] }

abbrev init_of : ℕ → ℕ → ChunkMeaning
init_of tag outbound = Init (record { tag = tag; rwnd = 65536; outbound = outbound; inbound = 1; tsn = 100; parameters = [] })

-- a cookie made at time 0
abbrev body : Body
body = record {
  made = 0;
  listener = record { port = 5001; tag = 9; tsn = 200 };
  caller = record { port = 5000; tag = 7; tsn = 100 };
  rwnd = 65536;
  to_caller = 2;
  from_caller = 2;
  partial = true;
  interleave = true;
  reset = false;
  zero_checksum = false;
}

-- ---- INIT

pub no_tag : stray_verdict (listener 0) of_b (to_b 0 (init_of 0 1 ∷ [])) ≡ Dropped 3
no_tag = refl

pub no_stream : stray_verdict (listener 0) of_b (to_b 0 (init_of 7 0 ∷ [])) ≡ Answer (to_a 7 (Abort false (0 ∷ 7 ∷ 0 ∷ 4 ∷ [])))
unfolding u16_bytes
no_stream = refl

pub none_listens : stray_verdict (fresh_end (configuration_of two B) Caller Idle) of_b (to_b 0 (init_of 7 1 ∷ [])) ≡ Answer (to_a 7 (Abort false []))
none_listens = refl

-- ---- other chunks

pub shown_back : stray_verdict (listener 0) of_b (to_b 55 (Heartbeat [] ∷ [])) ≡ Answer (to_a 55 (Abort true []))
shown_back = refl

pub both_gone : stray_verdict (listener 0) of_b (to_b 55 (ShutdownAck ∷ [])) ≡ Answer (to_a 55 (ShutdownComplete true))
both_gone = refl

pub an_abort_silences : stray_verdict (listener 0) of_b (to_b 55 (Heartbeat [] ∷ Abort false [] ∷ [])) ≡ Dropped 4
an_abort_silences = refl

pub late_ack : stray_verdict (listener 0) of_b (to_b 9 (CookieAck ∷ [])) ≡ Dropped 4
late_ack = refl

-- ---- cookies: one lives for 60,000 milliseconds

pub alive : opened_by (listener 60000) (to_b 9 (CookieEcho (numbers body) ∷ [])) ≡ Some body
alive = refl

pub over : opened_by (listener 60001) (to_b 9 (CookieEcho (numbers body) ∷ [])) ≡ None
over = refl

-- a millisecond too late is 1,000 microseconds
pub stale : stray_verdict (listener 60001) of_b (to_b 9 (CookieEcho (numbers body) ∷ [])) ≡ Answer (to_a 7 (Error (0 ∷ 3 ∷ 0 ∷ 8 ∷ 0 ∷ 0 ∷ 3 ∷ 232 ∷ [])))
unfolding u16_bytes u32_bytes
stale = refl

pub other_tag : stray_verdict (listener 0) of_b (to_b 8 (CookieEcho (numbers body) ∷ [])) ≡ Dropped 5
other_tag = refl
