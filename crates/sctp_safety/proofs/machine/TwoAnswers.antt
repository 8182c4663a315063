-- An INIT that arrives twice, and is answered twice: step by step, computed from the definitions (RFC 9260, 5.2.3).
use Rattle.std.proofs.Common.{ℕ, ◌<◌, false, List, [], ◌∷◌, ◌++◌, Some, inl, inr, refl, arith}
use Rattle.sctp_model.specs.numbers.Lists.{Has}
use Rattle.sctp_model.specs.numbers.Numbers.{u16_bytes, u32_bytes, u16_at, u32_at}
use Rattle.sctp_model.specs.wire.Typed.{starts_typed, typed_of}
use Rattle.sctp_model.specs.wire.Chunk.{InitMeaning, InitAck, CookieEcho}
use Rattle.sctp_model.specs.wire.Packet.{Packet, size_of_packet}
use Rattle.sctp_model.specs.end.EndView.{Draw, EndView, CookieAlarm, IsDraw}
use Rattle.sctp_model.specs.end.Clock.{started}
use Rattle.sctp_model.specs.end.Closing.{with_due}
use Rattle.sctp_model.specs.end.Reports.{written, item}
use Rattle.sctp_model.specs.end.Options.{STATE_COOKIE, own_options}
use Rattle.sctp_model.specs.end.PeerFaults.{STATE, packet_to, Unnoted}
use Rattle.sctp_model.specs.end.Opening.{body_for, echoing, begun, NotCalling, AcceptedAck}
use Rattle.sctp_model.specs.end.Strays.{Taken, Dropped, stray_verdict}
use Rattle.sctp_model.specs.end.Arriving.{Stray, CookieBegins, Heard, NoneLeft, Next, ReadAs, no_notes, noted}
use Rattle.sctp_model.specs.end.Arriving.{Passes}
use Rattle.sctp_model.specs.end.Building.{EchoSlot, ErrorSlot, EchoCookie, NoMore, NotDue, Put, Echoes, packet_of}
use Rattle.sctp_model.specs.world.World.{Side, A, B, World, with_end, with_packet, end_now, came, configuration_of}
use Rattle.sctp_model.specs.world.Events.{Event, Drawing, Connect, Build, Deliver, Foreign, Done, Sent, Acted, NotActed, told, with_verdict}
use Rattle.sctp_model.specs.world.Steps.{Step, Draws, BuildsOne, FromBag, PacketComes, Rest, Then}
use Rattle.sctp_safety.specs.Handshake.{TheFirstAnswerCounts}
use Rattle.sctp_safety.proofs.machine.OpeningWorlds.{two, of_a, of_b, numbers, w0, w1, w2, w3, init_meaning, packet_1, w4, packet_2, ack_meaning}
use Rattle.sctp_safety.proofs.machine.Handshake.{step_1, step_2, step_3, step_4, configured}

-- another draw, and the INIT once more
abbrev of_c : Draw
of_c = record { tag = 11; tsn = 600 }

abbrev v5 : World
v5 = record w4 { draw = of_c }

abbrev v6 : World
v6 = with_verdict (came v5 B (end_now v5 B)) B (stray_verdict (end_now v5 B) of_c packet_1)

-- the second answer arrives first
abbrev cookie : List ℕ
cookie = numbers (body_for (end_now v5 B) of_c init_meaning)

abbrev ack : InitMeaning
ack = record {
  tag = 11;
  rwnd = 65536;
  outbound = 2;
  inbound = 3;
  tsn = 600;
  parameters = written (item STATE_COOKIE cookie ∷ (own_options (configuration_of two B) ++ []));
}

abbrev second : Packet
second = packet_to (configuration_of two B) 7 (InitAck ack)

abbrev echoes : EndView
echoes = echoing (end_now v6 A) of_a ack cookie

abbrev v7 : World
v7 = came v6 A echoes

-- and then the first
abbrev v8 : World
v8 = came v7 A (end_now v7 A)

-- the cookie goes back
abbrev echoed : EndView
echoed = started CookieAlarm (with_due (record (end_now v8 A).due { cookie_echo = false }) (end_now v8 A))

abbrev third : Packet
third = packet_of v8.a (CookieEcho cookie ∷ [])

abbrev v9 : World
v9 = with_packet (with_end v8 A echoed) A third

abbrev begins : EndView
begins = begun (body_for (end_now v5 B) of_c init_meaning) (end_now v9 B)

abbrev v10 : World
v10 = came v9 B begins

draw_c : IsDraw of_c
draw_c = record { some = omega arith; tag = omega arith; tsn = omega arith }

step_5 : Step w4 (Drawing of_c) (Some Done) v5
step_5 = Draws of_c draw_c

step_6 : Step v5 (Deliver A 1) (Some (told v5 B (stray_verdict (end_now v5 B) of_c packet_1))) v6
unfolding u16_bytes u32_bytes u16_at u32_at starts_typed typed_of
step_6 = PacketComes (Deliver A 1) B (Some packet_1) (end_now v5 B) (stray_verdict (end_now v5 B) of_c packet_1) (FromBag A 1 packet_1 refl) (ReadAs packet_1 (end_now v5 B) (stray_verdict (end_now v5 B) of_c packet_1) (Stray refl refl refl refl))

step_7 : Step v6 (Deliver B 2) (Some Acted) v7
unfolding u16_bytes u32_bytes u16_at u32_at starts_typed typed_of
step_7 = PacketComes (Deliver B 2) A (Some second) echoes Taken (FromBag B 2 second refl) (ReadAs second echoes Taken (Heard echoes (noted Unnoted no_notes) Taken refl refl refl
    (Next (end_now v6 A) echoes echoes Unnoted no_notes (noted Unnoted no_notes) (InitAck ack) [] Taken
    (AcceptedAck of_a cookie refl some refl refl)
    (NoneLeft echoes (noted Unnoted no_notes))) false (λ on. absurd (cc))))
  where
    some : 0 < 11
    some = omega arith

step_8 : Step v7 (Deliver B 1) (Some (NotActed STATE)) v8
unfolding u16_bytes u32_bytes u16_at u32_at starts_typed typed_of
step_8 = PacketComes (Deliver B 1) A (Some packet_2) (end_now v7 A) (Dropped STATE) (FromBag B 1 packet_2 refl) (ReadAs packet_2 (end_now v7 A) (Dropped STATE) (Heard (end_now v7 A) no_notes (Dropped STATE) refl refl refl
    (Passes (end_now v7 A) (end_now v7 A) no_notes no_notes (InitAck ack_meaning) [] (Dropped STATE) (NotCalling refl) (NoneLeft (end_now v7 A) no_notes)) false (λ on. absurd (cc))))

step_9 : Step v8 (Build A) (Some (Sent 2 (size_of_packet (CookieEcho cookie ∷ [])))) v9
unfolding u16_bytes u32_bytes u16_at u32_at starts_typed typed_of
step_9 = BuildsOne A (CookieEcho cookie) [] echoed (Echoes (record { own = 7; peer = 11 }) cookie (CookieEcho cookie ∷ []) false echoed refl
    (Put EchoSlot (ErrorSlot ∷ []) (end_now v8 A) (CookieEcho cookie) [] (CookieEcho cookie ∷ []) false echoed refl (EchoCookie (record { own = 7; peer = 11 }) cookie refl) refl
    (NotDue ErrorSlot [] echoed (CookieEcho cookie ∷ []) (CookieEcho cookie ∷ []) false echoed refl (NoMore echoed (CookieEcho cookie ∷ [])))))

step_10 : Step v9 (Deliver A 2) (Some Acted) v10
unfolding u16_bytes u32_bytes u16_at u32_at starts_typed typed_of
step_10 = PacketComes (Deliver A 2) B (Some third) begins Taken (FromBag A 2 third refl) (ReadAs third begins Taken (CookieBegins (body_for (end_now v5 B) of_c init_meaning) begins (noted Unnoted no_notes) Taken refl refl refl refl (NoneLeft begins (noted Unnoted no_notes)) false (λ on. absurd (cc))))

abbrev asked : List Event
asked = Connect of_a ∷ Build A ∷ Drawing of_b ∷ Deliver A 1 ∷ Drawing of_c ∷ Deliver A 1 ∷ Deliver B 2 ∷ []

no_stranger : (to : Side) (p : Packet) → Has asked (Foreign to (Some p)) → ⊥
no_stranger to p (inl e) = absurd (cc)
no_stranger to p (inr (inl e)) = absurd (cc)
no_stranger to p (inr (inr (inl e))) = absurd (cc)
no_stranger to p (inr (inr (inr (inl e)))) = absurd (cc)
no_stranger to p (inr (inr (inr (inr (inl e))))) = absurd (cc)
no_stranger to p (inr (inr (inr (inr (inr (inl e)))))) = absurd (cc)
no_stranger to p (inr (inr (inr (inr (inr (inr (inl e))))))) = absurd (cc)
no_stranger to p (inr (inr (inr (inr (inr (inr (inr none))))))) = elim none [ ]

pub the_first_answer_counts : TheFirstAnswerCounts
unfolding u16_bytes u32_bytes u16_at u32_at starts_typed typed_of
the_first_answer_counts = record {
  setup = two;
  events = asked;
  later = Deliver B 1;
  before = v7;
  last = v8;
  answers = Some (Sent 2 (size_of_packet (CookieEcho cookie ∷ []))) ∷ Some Acted ∷ [];
  reached = record {
    configured = configured;
    answers = _;
    run =
        Then w0 w1 v7 _ _ _ _ step_1 (Then w1 w2 v7 _ _ _ _ step_2 (Then w2 w3 v7 _ _ _ _ step_3 (Then w3 w4 v7 _ _ _ _ step_4
        (Then w4 v5 v7 _ _ _ _ step_5 (Then v5 v6 v7 _ _ _ _ step_6 (Then v6 v7 v7 _ _ _ _ step_7 (Rest v7)))))));
    premises = λ to p h. absurd (no_stranger to p h);
  };
  dropped = step_8;
  same = refl;
  tags = record { own = 7; peer = 11 };
  cookie = cookie;
  a = refl;
  more = Build A ∷ Deliver A 2 ∷ [];
  open_world = v10;
  goes_on = Then v8 v9 v10 _ _ _ _ step_9 (Then v9 v10 v10 _ _ _ _ step_10 (Rest v10));
  b = refl;
  agreed = refl;
}
