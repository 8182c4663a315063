-- The opening, step by step: INIT, INIT ACK, COOKIE ECHO, COOKIE ACK, computed from the definitions.
use Rattle.std.proofs.Common.{◌<◌, false, [], ◌∷◌, Some, inl, inr, refl, arith}
use Rattle.sctp_model.specs.numbers.Lists.{Has}
use Rattle.sctp_model.specs.numbers.Numbers.{u16_bytes, u32_bytes, u16_at, u32_at}
use Rattle.sctp_model.specs.wire.Typed.{starts_typed, typed_of}
use Rattle.sctp_model.specs.wire.Chunk.{InitAck, CookieEcho, CookieAck}
use Rattle.sctp_model.specs.wire.Packet.{Packet, size_of_packet}
use Rattle.sctp_model.specs.end.EndView.{Draw, Established, InitAlarm, IsDraw}
use Rattle.sctp_model.specs.end.Clock.{started}
use Rattle.sctp_model.specs.end.Closing.{with_due}
use Rattle.sctp_model.specs.end.Configured.{IsConfiguration}
use Rattle.sctp_model.specs.end.Opening.{body_for, AcceptedAck, acknowledged_echo, CookieAcked}
use Rattle.sctp_model.specs.end.Strays.{Taken, stray_verdict}
use Rattle.sctp_model.specs.end.PeerFaults.{Unnoted}
use Rattle.sctp_model.specs.end.Arriving.{Stray, CookieBegins, Heard, NoneLeft, Next, ReadAs, no_notes, noted}
use Rattle.sctp_model.specs.end.Building.{EchoSlot, CookieAckSlot, HeartbeatSlot, BeatSlot, ErrorSlot, SackSlot, ForwardSlot, AnswerSlot, RequestSlot, ShutdownSlot, ShutdownAckSlot, EchoCookie, AckCookie, NoMore, NotDue, Put, Calls, Echoes, Fills, sent}
use Rattle.sctp_model.specs.world.World.{Side, A, B, end_now, configuration_of}
use Rattle.sctp_model.specs.world.Events.{told, OpenBoth, Drawing, Connect, Build, Deliver, Foreign, Done, Sent, Acted}
use Rattle.sctp_model.specs.world.Steps.{Step, Draws, Connects, BuildsOne, FromBag, PacketComes, Run, Rest, Then}
use Rattle.sctp_safety.specs.Handshake.{AnAssociationOpens}
use Rattle.sctp_safety.proofs.machine.OpeningWorlds.{two, of_a, of_b, tags_a, opening, w0, w1, init, w2, w3, init_meaning, packet_1, w4, cookie, ack_meaning, packet_2, echoes, w5, echoed, packet_3, w6, begins, w7, acked, packet_4, w8, w9, answers}

draw_a : IsDraw of_a
draw_a = record { some = omega arith; tag = omega arith; tsn = omega arith }

draw_b : IsDraw of_b
draw_b = record { some = omega arith; tag = omega arith; tsn = omega arith }

pub step_1 : Step w0 (Connect of_a) (Some Done) w1
step_1 = Connects of_a draw_a refl

pub step_2 : Step w1 (Build A) (Some (Sent 1 (size_of_packet (init ∷ [])))) w2
step_2 = BuildsOne A init [] (started InitAlarm (with_due (record (end_now w1 A).due { init = false }) (end_now w1 A))) (Calls of_a refl refl)

pub step_3 : Step w2 (Drawing of_b) (Some Done) w3
step_3 = Draws of_b draw_b

pub step_4 : Step w3 (Deliver A 1) (Some (told w3 B (stray_verdict (end_now w3 B) of_b packet_1))) w4
unfolding u16_bytes u32_bytes u16_at u32_at starts_typed typed_of
step_4 = PacketComes (Deliver A 1) B (Some packet_1) (end_now w3 B) (stray_verdict (end_now w3 B) of_b packet_1) (FromBag A 1 packet_1 refl) (ReadAs packet_1 (end_now w3 B) (stray_verdict (end_now w3 B) of_b packet_1) (Stray refl refl refl refl))

step_5 : Step w4 (Deliver B 1) (Some Acted) w5
unfolding u16_bytes u32_bytes u16_at u32_at starts_typed typed_of
step_5 = PacketComes (Deliver B 1) A (Some packet_2) echoes Taken (FromBag B 1 packet_2 refl) (ReadAs packet_2 echoes Taken (Heard echoes (noted Unnoted no_notes) Taken refl refl refl
    (Next (end_now w4 A) echoes echoes Unnoted no_notes (noted Unnoted no_notes) (InitAck ack_meaning) [] Taken
    (AcceptedAck of_a cookie refl some refl refl)
    (NoneLeft echoes (noted Unnoted no_notes))) false (λ on. absurd (cc))))
  where
    some : 0 < 9
    some = omega arith

step_6 : Step w5 (Build A) (Some (Sent 2 (size_of_packet (CookieEcho cookie ∷ [])))) w6
unfolding u16_bytes u32_bytes u16_at u32_at starts_typed typed_of
step_6 = BuildsOne A (CookieEcho cookie) [] echoed (Echoes tags_a cookie (CookieEcho cookie ∷ []) false echoed refl
    (Put EchoSlot (ErrorSlot ∷ []) (end_now w5 A) (CookieEcho cookie) [] (CookieEcho cookie ∷ []) false echoed refl (EchoCookie tags_a cookie refl) refl
    (NotDue ErrorSlot [] echoed (CookieEcho cookie ∷ []) (CookieEcho cookie ∷ []) false echoed refl (NoMore echoed (CookieEcho cookie ∷ [])))))

step_7 : Step w6 (Deliver A 2) (Some Acted) w7
unfolding u16_bytes u32_bytes u16_at u32_at starts_typed typed_of
step_7 = PacketComes (Deliver A 2) B (Some packet_3) begins Taken (FromBag A 2 packet_3 refl) (ReadAs packet_3 begins Taken (CookieBegins (body_for (end_now w3 B) of_b init_meaning) begins (noted Unnoted no_notes) Taken refl refl refl refl (NoneLeft begins (noted Unnoted no_notes)) false (λ on. absurd (cc))))

step_8 : Step w7 (Build B) (Some (Sent 2 (size_of_packet (CookieAck ∷ [])))) w8
unfolding u16_bytes u32_bytes u16_at u32_at starts_typed typed_of
step_8 = BuildsOne B CookieAck [] (sent acked (CookieAck ∷ [])) (Fills (record { own = 9; peer = 7 }) Established (CookieAck ∷ []) acked refl
    (Put CookieAckSlot (HeartbeatSlot ∷ BeatSlot ∷ ErrorSlot ∷ SackSlot ∷ ForwardSlot ∷ AnswerSlot ∷ RequestSlot ∷ ShutdownSlot ∷ ShutdownAckSlot ∷ []) (end_now w7 B) CookieAck [] (CookieAck ∷ []) false acked refl AckCookie refl
    (NotDue HeartbeatSlot (BeatSlot ∷ ErrorSlot ∷ SackSlot ∷ ForwardSlot ∷ AnswerSlot ∷ RequestSlot ∷ ShutdownSlot ∷ ShutdownAckSlot ∷ []) acked (CookieAck ∷ []) (CookieAck ∷ []) false acked refl
    (NotDue BeatSlot (ErrorSlot ∷ SackSlot ∷ ForwardSlot ∷ AnswerSlot ∷ RequestSlot ∷ ShutdownSlot ∷ ShutdownAckSlot ∷ []) acked (CookieAck ∷ []) (CookieAck ∷ []) false acked refl
    (NotDue ErrorSlot (SackSlot ∷ ForwardSlot ∷ AnswerSlot ∷ RequestSlot ∷ ShutdownSlot ∷ ShutdownAckSlot ∷ []) acked (CookieAck ∷ []) (CookieAck ∷ []) false acked refl
    (NotDue SackSlot (ForwardSlot ∷ AnswerSlot ∷ RequestSlot ∷ ShutdownSlot ∷ ShutdownAckSlot ∷ []) acked (CookieAck ∷ []) (CookieAck ∷ []) false acked refl
    (NotDue ForwardSlot (AnswerSlot ∷ RequestSlot ∷ ShutdownSlot ∷ ShutdownAckSlot ∷ []) acked (CookieAck ∷ []) (CookieAck ∷ []) false acked refl
    (NotDue AnswerSlot (RequestSlot ∷ ShutdownSlot ∷ ShutdownAckSlot ∷ []) acked (CookieAck ∷ []) (CookieAck ∷ []) false acked refl
    (NotDue RequestSlot (ShutdownSlot ∷ ShutdownAckSlot ∷ []) acked (CookieAck ∷ []) (CookieAck ∷ []) false acked refl
    (NotDue ShutdownSlot (ShutdownAckSlot ∷ []) acked (CookieAck ∷ []) (CookieAck ∷ []) false acked refl
    (NotDue ShutdownAckSlot [] acked (CookieAck ∷ []) (CookieAck ∷ []) false acked refl (NoMore acked (CookieAck ∷ [])))))))))))))

step_9 : Step w8 (Deliver B 2) (Some Acted) w9
unfolding u16_bytes u32_bytes u16_at u32_at starts_typed typed_of
step_9 =
    let t = acknowledged_echo tags_a (end_now w8 A) in
    PacketComes (Deliver B 2) A (Some packet_4) t Taken (FromBag B 2 packet_4 refl) (ReadAs packet_4 t Taken (Heard t (noted Unnoted no_notes) Taken refl refl refl
    (Next (end_now w8 A) t t Unnoted no_notes (noted Unnoted no_notes) CookieAck [] Taken
    (CookieAcked tags_a cookie refl)
    (NoneLeft t (noted Unnoted no_notes))) false (λ on. absurd (cc))))

pub run : Run w0 opening answers w9
run =
    Then w0 w1 w9 _ _ _ _ step_1 (Then w1 w2 w9 _ _ _ _ step_2 (Then w2 w3 w9 _ _ _ _ step_3 (Then w3 w4 w9 _ _ _ _ step_4
    (Then w4 w5 w9 _ _ _ _ step_5 (Then w5 w6 w9 _ _ _ _ step_6 (Then w6 w7 w9 _ _ _ _ step_7 (Then w7 w8 w9 _ _ _ _ step_8
    (Then w8 w9 w9 _ _ _ _ step_9 (Rest w9)))))))))

pub no_stranger : (to : Side) (p : Packet) → Has opening (Foreign to (Some p)) → ⊥
no_stranger to p (inl e) = absurd (cc)
no_stranger to p (inr (inl e)) = absurd (cc)
no_stranger to p (inr (inr (inl e))) = absurd (cc)
no_stranger to p (inr (inr (inr (inl e)))) = absurd (cc)
no_stranger to p (inr (inr (inr (inr (inl e))))) = absurd (cc)
no_stranger to p (inr (inr (inr (inr (inr (inl e)))))) = absurd (cc)
no_stranger to p (inr (inr (inr (inr (inr (inr (inl e))))))) = absurd (cc)
no_stranger to p (inr (inr (inr (inr (inr (inr (inr (inl e)))))))) = absurd (cc)
no_stranger to p (inr (inr (inr (inr (inr (inr (inr (inr (inl e))))))))) = absurd (cc)
no_stranger to p (inr (inr (inr (inr (inr (inr (inr (inr (inr none))))))))) = elim none [ ]

pub no_pair : (x y : Draw) → Has opening (OpenBoth x y) → ⊥
no_pair x y (inl e) = absurd (cc)
no_pair x y (inr (inl e)) = absurd (cc)
no_pair x y (inr (inr (inl e))) = absurd (cc)
no_pair x y (inr (inr (inr (inl e)))) = absurd (cc)
no_pair x y (inr (inr (inr (inr (inl e))))) = absurd (cc)
no_pair x y (inr (inr (inr (inr (inr (inl e)))))) = absurd (cc)
no_pair x y (inr (inr (inr (inr (inr (inr (inl e))))))) = absurd (cc)
no_pair x y (inr (inr (inr (inr (inr (inr (inr (inl e)))))))) = absurd (cc)
no_pair x y (inr (inr (inr (inr (inr (inr (inr (inr (inl e))))))))) = absurd (cc)
no_pair x y (inr (inr (inr (inr (inr (inr (inr (inr (inr none))))))))) = elim none [ ]

pub configured : (x : Side) → IsConfiguration (configuration_of two x)
configured A = record {
  own_port = (omega arith, omega arith);
  peer_port = (omega arith, omega arith);
  limit = (omega arith, omega arith);
  fragment = (omega arith, omega arith, omega arith);
  buffer = (omega arith, omega arith);
  outbound = (omega arith, omega arith);
  inbound = (omega arith, omega arith);
}
configured B = record {
  own_port = (omega arith, omega arith);
  peer_port = (omega arith, omega arith);
  limit = (omega arith, omega arith);
  fragment = (omega arith, omega arith, omega arith);
  buffer = (omega arith, omega arith);
  outbound = (omega arith, omega arith);
  inbound = (omega arith, omega arith);
}

pub an_association_opens : AnAssociationOpens
unfolding u16_bytes u32_bytes u16_at u32_at starts_typed typed_of
an_association_opens = record {
  setup = two;
  events = opening;
  last = w9;
  by_packets = no_pair;
  reached = record { configured = configured; answers = answers; run = run; premises = λ to p h. absurd (no_stranger to p h) };
  open_ends = record { tags = tags_a; a = refl; b = refl; tsn_of_a = refl; tsn_of_b = refl; format_a = refl; format_b = refl };
}
