-- The script's opening, event by event.
use Rattle.std.proofs.Common.{ℕ, ◌<◌, ◌^◌, true, false, List, [], ◌∷◌, Some, refl, arith}
use Rattle.sctp_model.specs.numbers.Numbers.{u16_bytes, u32_bytes, u16_at, u32_at}
use Rattle.sctp_model.specs.wire.Typed.{starts_typed, typed_of}
use Rattle.sctp_model.specs.wire.Chunk.{InitMeaning, ChunkMeaning, InitAck, CookieEcho, CookieAck}
use Rattle.sctp_model.specs.wire.Packet.{Packet}
use Rattle.sctp_model.specs.end.Sealing.{Body}
use Rattle.sctp_model.specs.end.EndView.{Draw, Tags, Established, EndView, InitAlarm, CookieAlarm, IsDraw}
use Rattle.sctp_model.specs.end.Clock.{started}
use Rattle.sctp_model.specs.end.Closing.{with_due}
use Rattle.sctp_model.specs.end.Reports.{written, item}
use Rattle.sctp_model.specs.end.Options.{STATE_COOKIE}
use Rattle.sctp_model.specs.end.PeerFaults.{STATE, packet_to, Unnoted}
use Rattle.sctp_model.specs.end.Opening.{own_init, body_for, echoing, begun, acknowledged_echo, NotCalling, AcceptedAck, EchoedAgain, NotEchoing, CookieAcked}
use Rattle.sctp_model.specs.end.Strays.{Taken, Dropped, stray_verdict}
use Rattle.sctp_model.proofs.PacedEnds.{heard_unpaced}
use Rattle.sctp_model.specs.end.Arriving.{Stray, CookieBegins, NoneLeft, Next, ReadAs, no_notes, noted}
use Rattle.sctp_model.specs.end.Arriving.{Passes}
use Rattle.sctp_model.specs.end.Building.{EchoSlot, ErrorSlot, EchoCookie, NoMore, NotDue, Put, Calls, Echoes, packet_of}
use Rattle.sctp_model.specs.end.UserCalls.{called}
use Rattle.sctp_model.specs.world.World.{A, B, World, Setup, configuration_of, with_end, with_packet, end_now, came, start}
use Rattle.sctp_model.specs.world.Events.{Drawing, Connect, Build, Deliver, Done, Sent, Acted, Answered, NotActed, with_verdict}
use Rattle.sctp_model.specs.world.Steps.{Step, Draws, Connects, BuildsOne, FromBag, PacketComes, Run, Rest, Then}
use Rattle.sctp_safety.proofs.machine.OpeningWorlds.{open_seal, numbers}
use Rattle.sctp_outcomes.specs.Script.{script_setup, opening_events, opening_told}
use Rattle.sctp_outcomes.proofs.stories.Packets.{packet_built, builds_are}
use Rattle.sctp_outcomes.proofs.stories.Acts.{bound_none}

abbrev pub pair : Setup
pair = script_setup open_seal

abbrev of_a : Draw
of_a = record { tag = 7; tsn = 100 }

abbrev of_b : Draw
of_b = record { tag = 9; tsn = 500 }

abbrev pub tags_a : Tags
tags_a = record { own = 7; peer = 9 }

abbrev pub tags_b : Tags
tags_b = record { own = 9; peer = 7 }

drawn : (n t : ℕ) → 0 < n → n < 2 ^ 32 → t < 2 ^ 32 → IsDraw (record { tag = n; tsn = t })
drawn n t some tag first = record { some = some; tag = tag; tsn = first }

-- the caller's INIT
abbrev s1 : World
s1 = record (start pair) { a = called (end_now (start pair) A) of_a; openable = false }

abbrev init : ChunkMeaning
init = own_init (configuration_of pair A) of_a

abbrev packet_1 : Packet
packet_1 = packet_of s1.a (init ∷ [])

abbrev s2 : World
s2 = with_packet (with_end s1 A (started InitAlarm (with_due (record (end_now s1 A).due { init = false }) (end_now s1 A)))) A packet_1

abbrev s3 : World
s3 = record s2 { draw = of_b }

-- it arrives twice, and is answered twice
abbrev s4 : World
s4 = with_verdict (came s3 B (end_now s3 B)) B (stray_verdict (end_now s3 B) of_b packet_1)

abbrev s5 : World
s5 = with_verdict (came s4 B (end_now s4 B)) B (stray_verdict (end_now s4 B) of_b packet_1)

step_4 : Step s3 (Deliver A 1) (Some (Answered 1 108)) s4
unfolding u16_bytes u32_bytes u16_at u32_at starts_typed typed_of
step_4 = PacketComes (Deliver A 1) B (Some packet_1) (end_now s3 B) (stray_verdict (end_now s3 B) of_b packet_1) (FromBag A 1 packet_1 refl) (ReadAs packet_1 (end_now s3 B) (stray_verdict (end_now s3 B) of_b packet_1) (Stray refl refl refl refl))

step_5 : Step s4 (Deliver A 1) (Some (Answered 2 108)) s5
unfolding u16_bytes u32_bytes u16_at u32_at starts_typed typed_of
step_5 = PacketComes (Deliver A 1) B (Some packet_1) (end_now s4 B) (stray_verdict (end_now s4 B) of_b packet_1) (FromBag A 1 packet_1 refl) (ReadAs packet_1 (end_now s4 B) (stray_verdict (end_now s4 B) of_b packet_1) (Stray refl refl refl refl))

-- the first INIT ACK counts
abbrev init_meaning : InitMeaning
init_meaning = record { tag = 7; rwnd = 65536; outbound = 1; inbound = 1; tsn = 100; parameters = [] }

abbrev body : Body
body = body_for (end_now s3 B) of_b init_meaning

abbrev cookie : List ℕ
cookie = numbers body

abbrev ack_meaning : InitMeaning
ack_meaning = record { tag = 9; rwnd = 65536; outbound = 1; inbound = 1; tsn = 500; parameters = written (item STATE_COOKIE cookie ∷ []) }

abbrev ack_packet : Packet
ack_packet = packet_to (configuration_of pair B) 7 (InitAck ack_meaning)

abbrev echoes : EndView
echoes = echoing (end_now s5 A) of_a ack_meaning cookie

abbrev s6 : World
s6 = came s5 A echoes

step_6 : Step s5 (Deliver B 1) (Some Acted) s6
unfolding u16_bytes u32_bytes u16_at u32_at starts_typed typed_of
step_6 = PacketComes (Deliver B 1) A (Some ack_packet) echoes Taken (FromBag B 1 ack_packet refl) (ReadAs ack_packet echoes Taken (heard_unpaced (end_now s5 A) s5.draw ack_packet echoes (noted Unnoted no_notes) Taken refl refl refl
    (Next (end_now s5 A) echoes echoes Unnoted no_notes (noted Unnoted no_notes) (InitAck ack_meaning) [] Taken
    (AcceptedAck of_a cookie refl some refl refl)
    (NoneLeft echoes (noted Unnoted no_notes))) false (λ on. absurd (cc)) refl))
  where
    some : 0 < 9
    some = omega arith

abbrev s7 : World
s7 = came s6 A (end_now s6 A)

step_7 : Step s6 (Deliver B 1) (Some (NotActed STATE)) s7
unfolding u16_bytes u32_bytes u16_at u32_at starts_typed typed_of
step_7 = PacketComes (Deliver B 1) A (Some ack_packet) (end_now s6 A) (Dropped STATE) (FromBag B 1 ack_packet refl) (ReadAs ack_packet (end_now s6 A) (Dropped STATE) (heard_unpaced (end_now s6 A) s6.draw ack_packet (end_now s6 A) no_notes (Dropped STATE) refl refl refl
    (Passes (end_now s6 A) (end_now s6 A) no_notes no_notes (InitAck ack_meaning) [] (Dropped STATE) (NotCalling refl) (NoneLeft (end_now s6 A) no_notes)) false (λ on. absurd (cc)) refl))

-- the cookie goes back
abbrev echoed : EndView
echoed = started CookieAlarm (with_due (record (end_now s7 A).due { cookie_echo = false }) (end_now s7 A))

abbrev packet_2 : Packet
packet_2 = packet_of s7.a (CookieEcho cookie ∷ [])

abbrev s8 : World
s8 = with_packet (with_end s7 A echoed) A packet_2

step_8 : Step s7 (Build A) (Some (Sent 2 88)) s8
unfolding u16_bytes u32_bytes u16_at u32_at starts_typed typed_of
step_8 = BuildsOne A (CookieEcho cookie) [] echoed (Echoes tags_a cookie (CookieEcho cookie ∷ []) false echoed refl
    (Put EchoSlot (ErrorSlot ∷ []) (end_now s7 A) (CookieEcho cookie) [] (CookieEcho cookie ∷ []) false echoed refl (EchoCookie tags_a cookie refl) refl
    (NotDue ErrorSlot [] echoed (CookieEcho cookie ∷ []) (CookieEcho cookie ∷ []) false echoed refl (NoMore echoed (CookieEcho cookie ∷ [])))))

-- the listener begins, and hears it again
abbrev begins : EndView
begins = begun body (end_now s8 B)

abbrev s9 : World
s9 = came s8 B begins

step_9 : Step s8 (Deliver A 2) (Some Acted) s9
unfolding u16_bytes u32_bytes u16_at u32_at starts_typed typed_of
step_9 = PacketComes (Deliver A 2) B (Some packet_2) begins Taken (FromBag A 2 packet_2 refl) (ReadAs packet_2 begins Taken (CookieBegins body begins (noted Unnoted no_notes) Taken refl refl refl refl (NoneLeft begins (noted Unnoted no_notes)) false (λ on. absurd (cc))))

abbrev again : EndView
again = with_due (record (end_now s9 B).due { cookie_ack = true }) (end_now s9 B)

abbrev s10 : World
s10 = came s9 B again

step_10 : Step s9 (Deliver A 2) (Some Acted) s10
unfolding u16_bytes u32_bytes u16_at u32_at starts_typed typed_of
step_10 = PacketComes (Deliver A 2) B (Some packet_2) again Taken (FromBag A 2 packet_2 refl) (ReadAs packet_2 again Taken (heard_unpaced (end_now s9 B) s9.draw packet_2 again (noted Unnoted no_notes) Taken refl refl refl
    (Next (end_now s9 B) again again Unnoted no_notes (noted Unnoted no_notes) (CookieEcho cookie) [] Taken
    (EchoedAgain open_seal tags_b Established refl refl refl refl)
    (NoneLeft again (noted Unnoted no_notes))) false (λ on. absurd (cc)) refl))

-- and says so
abbrev packet_3 : Packet
packet_3 = packet_of s10.b (CookieAck ∷ [])

abbrev s11 : World
s11 = with_packet (with_end s10 B (packet_built (end_now s10 B) 0).after) B packet_3

step_11 : Step s10 (Build B) (Some (Sent 3 16)) s11
unfolding u16_bytes u32_bytes u16_at u32_at starts_typed typed_of
step_11 = BuildsOne B CookieAck [] (packet_built (end_now s10 B) 0).after (builds_are tags_b Established (end_now s10 B) 0 refl (bound_none s10.b.receiver refl))

abbrev open_end : EndView
open_end = acknowledged_echo tags_a (end_now s11 A)

abbrev s12 : World
s12 = came s11 A open_end

step_12 : Step s11 (Deliver B 3) (Some Acted) s12
unfolding u16_bytes u32_bytes u16_at u32_at starts_typed typed_of
step_12 = PacketComes (Deliver B 3) A (Some packet_3) open_end Taken (FromBag B 3 packet_3 refl) (ReadAs packet_3 open_end Taken (heard_unpaced (end_now s11 A) s11.draw packet_3 open_end (noted Unnoted no_notes) Taken refl refl refl
    (Next (end_now s11 A) open_end open_end Unnoted no_notes (noted Unnoted no_notes) CookieAck [] Taken
    (CookieAcked tags_a cookie refl)
    (NoneLeft open_end (noted Unnoted no_notes))) false (λ on. absurd (cc)) refl))

abbrev pub s13 : World
s13 = came s12 A (end_now s12 A)

step_13 : Step s12 (Deliver B 3) (Some (NotActed STATE)) s13
unfolding u16_bytes u32_bytes u16_at u32_at starts_typed typed_of
step_13 = PacketComes (Deliver B 3) A (Some packet_3) (end_now s12 A) (Dropped STATE) (FromBag B 3 packet_3 refl) (ReadAs packet_3 (end_now s12 A) (Dropped STATE) (heard_unpaced (end_now s12 A) s12.draw packet_3 (end_now s12 A) no_notes (Dropped STATE) refl refl refl
    (Passes (end_now s12 A) (end_now s12 A) no_notes no_notes CookieAck [] (Dropped STATE) (NotEchoing refl) (NoneLeft (end_now s12 A) no_notes)) false (λ on. absurd (cc)) refl))

step_1 : Step (start pair) (Connect of_a) (Some Done) s1
step_1 = Connects of_a (drawn 7 100 (omega arith) (omega arith) (omega arith)) refl

step_2 : Step s1 (Build A) (Some (Sent 1 32)) s2
step_2 = BuildsOne A init [] (started InitAlarm (with_due (record (end_now s1 A).due { init = false }) (end_now s1 A))) (Calls of_a refl refl)

step_3 : Step s2 (Drawing of_b) (Some Done) s3
step_3 = Draws of_b (drawn 9 500 (omega arith) (omega arith) (omega arith))

pub opening_runs : Run (start pair) opening_events opening_told s13
opening_runs =
    Then (start pair) s1 s13 _ _ _ _ step_1 (Then s1 s2 s13 _ _ _ _ step_2 (Then s2 s3 s13 _ _ _ _ step_3 (Then s3 s4 s13 _ _ _ _ step_4
    (Then s4 s5 s13 _ _ _ _ step_5 (Then s5 s6 s13 _ _ _ _ step_6 (Then s6 s7 s13 _ _ _ _ step_7 (Then s7 s8 s13 _ _ _ _ step_8
    (Then s8 s9 s13 _ _ _ _ step_9 (Then s9 s10 s13 _ _ _ _ step_10 (Then s10 s11 s13 _ _ _ _ step_11 (Then s11 s12 s13 _ _ _ _ step_12
    (Then s12 s13 s13 _ _ _ _ step_13 (Rest s13)))))))))))))
