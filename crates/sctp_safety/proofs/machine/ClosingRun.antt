-- The closing, step by step: SHUTDOWN, SHUTDOWN ACK, SHUTDOWN COMPLETE, computed from the definitions.
use Rattle.std.proofs.Common.{ℕ, ◌⊎◌, false, List, [], ◌∷◌, ◌++◌, Option, Some, inl, inr, refl, arith}
use Rattle.sctp_model.specs.numbers.Lists.{Has}
use Rattle.sctp_model.specs.numbers.Numbers.{u16_bytes, u32_bytes, u16_at, u32_at}
use Rattle.sctp_model.specs.wire.Typed.{starts_typed, typed_of}
use Rattle.sctp_model.specs.numbers.Serial.{tsn}
use Rattle.sctp_model.specs.wire.Chunk.{ShutdownAck, ShutdownComplete}
use Rattle.sctp_model.specs.wire.Chunk.{Shutdown as Says}
use Rattle.sctp_model.specs.wire.Packet.{Packet, size_of_packet}
use Rattle.sctp_model.specs.receiver.ReceiverView.{Reaches, IsCumulative, fresh_receiver}
use Rattle.sctp_model.specs.end.EndView.{Draw, Tags, Established, ShutdownSent, ShutdownAckSent, Completed, EndView, ShutdownAlarm, AckAlarm}
use Rattle.sctp_model.specs.end.Clock.{started, closed}
use Rattle.sctp_model.specs.end.Closing.{with_due, rested}
use Rattle.sctp_model.specs.end.PeerFaults.{packet_to, Unnoted}
use Rattle.sctp_model.specs.end.Acting.{ShutdownCounts, AckCompletes, CompleteCompleted, shutdown_heard}
use Rattle.sctp_model.specs.end.Strays.{Taken, Answer}
use Rattle.sctp_model.specs.end.Arriving.{Heard, NoneLeft, Next, Last, EndsAnswered, ReadAs, no_notes, noted}
use Rattle.sctp_model.specs.end.Beating.{guarded}
use Rattle.sctp_model.specs.end.Building.{CookieAckSlot, HeartbeatSlot, ErrorSlot, SackSlot, ForwardSlot, AnswerSlot, RequestSlot, ShutdownSlot, ShutdownAckSlot, SayShutdown, AnswerShutdown, NoMore, NotDue, Put, Fills, sent, packet_of}
use Rattle.sctp_model.specs.end.Building.{BeatSlot}
use Rattle.sctp_model.specs.end.UserCalls.{shut}
use Rattle.sctp_model.specs.world.World.{Side, A, B, World, with_end, with_packet, end_now, came}
use Rattle.sctp_model.specs.world.Events.{told, Event, OpenBoth, Foreign, Build, Deliver, Shutdown, Outcome, Done, Sent, Acted}
use Rattle.sctp_model.specs.world.Steps.{Step, BuildsOne, FromBag, PacketComes, ShutsDown, Run, Rest, Then}
use Rattle.sctp_safety.specs.Handshake.{AnAssociationCloses}
use Rattle.sctp_safety.proofs.machine.OpeningWorlds.{two, tags_a, opening, answers, w0, w9}
use Rattle.sctp_safety.proofs.machine.Handshake.{run, configured, no_stranger, no_pair}

abbrev tags_b : Tags
tags_b = record { own = 9; peer = 7 }

abbrev closing : List Event
closing = Shutdown A ∷ Build A ∷ Deliver A 3 ∷ Build B ∷ Deliver B 3 ∷ Deliver A 4 ∷ []

-- nothing arrived, so all up to index 0 is reached
fresh_cumulative : (i s b v : ℕ) → IsCumulative (fresh_receiver i s b v) 0
fresh_cumulative i s b v = record { reached = λ j low high. absurd (omega (arith, low, high)); open_end = λ h. go h }
  where
    go : Reaches (fresh_receiver i s b v) 1 → ⊥
    go (inl e) = absurd (cc)
    go (inr h) = absurd (omega (arith, h))

-- the user of the caller is done, and so is its sender
abbrev w10 : World
w10 = with_end w9 A (shut w9.a)

abbrev said : EndView
said = guarded (started ShutdownAlarm (with_due (record (end_now w10 A).due { shutdown = false }) (end_now w10 A)))

abbrev packet_5 : Packet
packet_5 = packet_of w10.a (Says (tsn 200 0) ∷ [])

abbrev w11 : World
w11 = with_packet (with_end w10 A (sent said (Says (tsn 200 0) ∷ []))) A packet_5

-- the listener's is done too
abbrev heard : EndView
heard = shutdown_heard tags_b (end_now w11 B) (tsn 200 0)

abbrev w12 : World
w12 = came w11 B (rested heard)

abbrev answered : EndView
answered = started AckAlarm (with_due (record (end_now w12 B).due { shutdown_ack = false }) (end_now w12 B))

abbrev packet_6 : Packet
packet_6 = packet_of w12.b (ShutdownAck ∷ [])

abbrev w13 : World
w13 = with_packet (with_end w12 B (sent answered (ShutdownAck ∷ []))) B packet_6

abbrev packet_7 : Packet
packet_7 = packet_to (end_now w13 A).configuration 9 (ShutdownComplete false)

abbrev w14 : World
w14 = with_packet (came w13 A (closed Completed (end_now w13 A))) A packet_7

abbrev w15 : World
w15 = came w14 B (closed Completed (end_now w14 B))

step_10 : Step w9 (Shutdown A) (Some Done) w10
step_10 = ShutsDown A

step_11 : Step w10 (Build A) (Some (Sent 3 (size_of_packet (Says (tsn 200 0) ∷ [])))) w11
unfolding u16_bytes u32_bytes u16_at u32_at starts_typed typed_of
step_11 = BuildsOne A (Says (tsn 200 0)) [] (sent said (Says (tsn 200 0) ∷ [])) (Fills tags_a ShutdownSent (Says (tsn 200 0) ∷ []) said refl
    (NotDue CookieAckSlot (HeartbeatSlot ∷ BeatSlot ∷ ErrorSlot ∷ SackSlot ∷ ForwardSlot ∷ AnswerSlot ∷ RequestSlot ∷ ShutdownSlot ∷ ShutdownAckSlot ∷ []) (end_now w10 A) [] (Says (tsn 200 0) ∷ []) false said refl
    (NotDue HeartbeatSlot (BeatSlot ∷ ErrorSlot ∷ SackSlot ∷ ForwardSlot ∷ AnswerSlot ∷ RequestSlot ∷ ShutdownSlot ∷ ShutdownAckSlot ∷ []) (end_now w10 A) [] (Says (tsn 200 0) ∷ []) false said refl
    (NotDue BeatSlot (ErrorSlot ∷ SackSlot ∷ ForwardSlot ∷ AnswerSlot ∷ RequestSlot ∷ ShutdownSlot ∷ ShutdownAckSlot ∷ []) (end_now w10 A) [] (Says (tsn 200 0) ∷ []) false said refl
    (NotDue ErrorSlot (SackSlot ∷ ForwardSlot ∷ AnswerSlot ∷ RequestSlot ∷ ShutdownSlot ∷ ShutdownAckSlot ∷ []) (end_now w10 A) [] (Says (tsn 200 0) ∷ []) false said refl
    (NotDue SackSlot (ForwardSlot ∷ AnswerSlot ∷ RequestSlot ∷ ShutdownSlot ∷ ShutdownAckSlot ∷ []) (end_now w10 A) [] (Says (tsn 200 0) ∷ []) false said refl
    (NotDue ForwardSlot (AnswerSlot ∷ RequestSlot ∷ ShutdownSlot ∷ ShutdownAckSlot ∷ []) (end_now w10 A) [] (Says (tsn 200 0) ∷ []) false said refl
    (NotDue AnswerSlot (RequestSlot ∷ ShutdownSlot ∷ ShutdownAckSlot ∷ []) (end_now w10 A) [] (Says (tsn 200 0) ∷ []) false said refl
    (NotDue RequestSlot (ShutdownSlot ∷ ShutdownAckSlot ∷ []) (end_now w10 A) [] (Says (tsn 200 0) ∷ []) false said refl
    (Put ShutdownSlot (ShutdownAckSlot ∷ []) (end_now w10 A) (Says (tsn 200 0)) [] (Says (tsn 200 0) ∷ []) false said refl (SayShutdown 0 (fresh_cumulative 200 2 65536 0)) refl
    (NotDue ShutdownAckSlot [] said (Says (tsn 200 0) ∷ []) (Says (tsn 200 0) ∷ []) false said refl
    (NoMore said (Says (tsn 200 0) ∷ [])))))))))))))

step_12 : Step w11 (Deliver A 3) (Some Acted) w12
unfolding u16_bytes u32_bytes u16_at u32_at starts_typed typed_of
step_12 = PacketComes (Deliver A 3) B (Some packet_5) (rested heard) Taken (FromBag A 3 packet_5 refl) (ReadAs packet_5 (rested heard) Taken (Heard (rested heard) (noted Unnoted no_notes) Taken refl refl refl
    (Next (end_now w11 B) heard (rested heard) Unnoted no_notes (noted Unnoted no_notes) (Says (tsn 200 0)) [] Taken
    (ShutdownCounts tags_b Established refl refl refl)
    (NoneLeft (rested heard) (noted Unnoted no_notes))) false (λ on. absurd (cc))))

step_13 : Step w12 (Build B) (Some (Sent 3 (size_of_packet (ShutdownAck ∷ [])))) w13
unfolding u16_bytes u32_bytes u16_at u32_at starts_typed typed_of
step_13 = BuildsOne B ShutdownAck [] (sent answered (ShutdownAck ∷ [])) (Fills tags_b ShutdownAckSent (ShutdownAck ∷ []) answered refl
    (NotDue CookieAckSlot (HeartbeatSlot ∷ BeatSlot ∷ ErrorSlot ∷ SackSlot ∷ ForwardSlot ∷ AnswerSlot ∷ RequestSlot ∷ ShutdownSlot ∷ ShutdownAckSlot ∷ []) (end_now w12 B) [] (ShutdownAck ∷ []) false answered refl
    (NotDue HeartbeatSlot (BeatSlot ∷ ErrorSlot ∷ SackSlot ∷ ForwardSlot ∷ AnswerSlot ∷ RequestSlot ∷ ShutdownSlot ∷ ShutdownAckSlot ∷ []) (end_now w12 B) [] (ShutdownAck ∷ []) false answered refl
    (NotDue BeatSlot (ErrorSlot ∷ SackSlot ∷ ForwardSlot ∷ AnswerSlot ∷ RequestSlot ∷ ShutdownSlot ∷ ShutdownAckSlot ∷ []) (end_now w12 B) [] (ShutdownAck ∷ []) false answered refl
    (NotDue ErrorSlot (SackSlot ∷ ForwardSlot ∷ AnswerSlot ∷ RequestSlot ∷ ShutdownSlot ∷ ShutdownAckSlot ∷ []) (end_now w12 B) [] (ShutdownAck ∷ []) false answered refl
    (NotDue SackSlot (ForwardSlot ∷ AnswerSlot ∷ RequestSlot ∷ ShutdownSlot ∷ ShutdownAckSlot ∷ []) (end_now w12 B) [] (ShutdownAck ∷ []) false answered refl
    (NotDue ForwardSlot (AnswerSlot ∷ RequestSlot ∷ ShutdownSlot ∷ ShutdownAckSlot ∷ []) (end_now w12 B) [] (ShutdownAck ∷ []) false answered refl
    (NotDue AnswerSlot (RequestSlot ∷ ShutdownSlot ∷ ShutdownAckSlot ∷ []) (end_now w12 B) [] (ShutdownAck ∷ []) false answered refl
    (NotDue RequestSlot (ShutdownSlot ∷ ShutdownAckSlot ∷ []) (end_now w12 B) [] (ShutdownAck ∷ []) false answered refl
    (NotDue ShutdownSlot (ShutdownAckSlot ∷ []) (end_now w12 B) [] (ShutdownAck ∷ []) false answered refl
    (Put ShutdownAckSlot [] (end_now w12 B) ShutdownAck [] (ShutdownAck ∷ []) false answered refl AnswerShutdown refl
    (NoMore answered (ShutdownAck ∷ [])))))))))))))

step_14 : Step w13 (Deliver B 3) (Some (told w13 A (Answer packet_7))) w14
unfolding u16_bytes u32_bytes u16_at u32_at starts_typed typed_of
step_14 = PacketComes (Deliver B 3) A (Some packet_6) (closed Completed (end_now w13 A)) (Answer packet_7) (FromBag B 3 packet_6 refl) (ReadAs packet_6 (closed Completed (end_now w13 A)) (Answer packet_7) (Heard (closed Completed (end_now w13 A)) no_notes (Answer packet_7) refl refl refl
    (EndsAnswered (end_now w13 A) (closed Completed (end_now w13 A)) no_notes ShutdownAck [] packet_7 (AckCompletes tags_a ShutdownSent refl refl)) false (λ on. absurd (cc))))

step_15 : Step w14 (Deliver A 4) (Some Acted) w15
unfolding u16_bytes u32_bytes u16_at u32_at starts_typed typed_of
step_15 = PacketComes (Deliver A 4) B (Some packet_7) (closed Completed (end_now w14 B)) Taken (FromBag A 4 packet_7 refl) (ReadAs packet_7 (closed Completed (end_now w14 B)) Taken (Heard (closed Completed (end_now w14 B)) no_notes Taken refl refl refl
    (Last (end_now w14 B) (closed Completed (end_now w14 B)) no_notes (ShutdownComplete false) [] (CompleteCompleted refl)) false (λ on. absurd (cc))))

abbrev told_closing : List (Option Outcome)
told_closing =
    Some Done ∷ Some (Sent 3 (size_of_packet (Says (tsn 200 0) ∷ []))) ∷ Some Acted ∷ Some (Sent 3 (size_of_packet (ShutdownAck ∷ [])))
    ∷ Some (told w13 A (Answer packet_7)) ∷ Some Acted ∷ []

closes : Run w9 closing told_closing w15
closes =
    Then w9 w10 w15 _ _ _ _ step_10 (Then w10 w11 w15 _ _ _ _ step_11 (Then w11 w12 w15 _ _ _ _ step_12 (Then w12 w13 w15 _ _ _ _ step_13
    (Then w13 w14 w15 _ _ _ _ step_14 (Then w14 w15 w15 _ _ _ _ step_15 (Rest w15))))))

-- ---- runs and lists, one after the other

run_on : (u v w : World) (es fs : List Event) (os ps : List (Option Outcome)) → Run u es os v → Run v fs ps w → Run u (es ++ fs) (os ++ ps) w
run_on u v w es fs os ps (Rest _) b = b
run_on u v w es fs os ps (Then _ mid _ e rest o others step run) b = Then u mid w e (rest ++ fs) o (others ++ ps) step (run_on mid v w rest fs others ps run b)

in_either : (es fs : List Event) (e : Event) → Has (es ++ fs) e → Has es e ⊎ Has fs e
in_either [] fs e h = inr h
in_either (x ∷ es) fs e (inl q) = inl (inl q)
in_either (x ∷ es) fs e (inr h) = go (in_either es fs e h)
  where
    go : Has es e ⊎ Has fs e → Has (x ∷ es) e ⊎ Has fs e
    go (inl a) = inl (inr a)
    go (inr b) = inr b

strange_closing : (to : Side) (p : Packet) → Has closing (Foreign to (Some p)) → ⊥
strange_closing to p (inl e) = absurd (cc)
strange_closing to p (inr (inl e)) = absurd (cc)
strange_closing to p (inr (inr (inl e))) = absurd (cc)
strange_closing to p (inr (inr (inr (inl e)))) = absurd (cc)
strange_closing to p (inr (inr (inr (inr (inl e))))) = absurd (cc)
strange_closing to p (inr (inr (inr (inr (inr (inl e)))))) = absurd (cc)
strange_closing to p (inr (inr (inr (inr (inr (inr none)))))) = elim none [ ]

paired_closing : (x y : Draw) → Has closing (OpenBoth x y) → ⊥
paired_closing x y (inl e) = absurd (cc)
paired_closing x y (inr (inl e)) = absurd (cc)
paired_closing x y (inr (inr (inl e))) = absurd (cc)
paired_closing x y (inr (inr (inr (inl e)))) = absurd (cc)
paired_closing x y (inr (inr (inr (inr (inl e))))) = absurd (cc)
paired_closing x y (inr (inr (inr (inr (inr (inl e)))))) = absurd (cc)
paired_closing x y (inr (inr (inr (inr (inr (inr none)))))) = elim none [ ]

pub an_association_closes : AnAssociationCloses
unfolding u16_bytes u32_bytes u16_at u32_at starts_typed typed_of
an_association_closes = record {
  setup = two;
  events = opening ++ closing;
  last = w15;
  by_packets = λ x y h. paired x y (in_either opening closing (OpenBoth x y) h);
  reached = record {
    configured = configured;
    answers = answers ++ told_closing;
    run = run_on w0 w9 w15 opening closing answers told_closing run closes;
    premises = λ to p h. absurd (strange to p (in_either opening closing (Foreign to (Some p)) h));
  };
  a = refl;
  b = refl;
}
  where
    paired : (x y : Draw) → Has opening (OpenBoth x y) ⊎ Has closing (OpenBoth x y) → ⊥
    paired x y (inl h) = no_pair x y h
    paired x y (inr h) = paired_closing x y h

    strange : (to : Side) (p : Packet) → Has opening (Foreign to (Some p)) ⊎ Has closing (Foreign to (Some p)) → ⊥
    strange to p (inl h) = no_stranger to p h
    strange to p (inr h) = strange_closing to p h
