-- A message on its way: two endpoints open by packets, one sends, the message arrives, is taken and acknowledged, and both endpoints close, each completed.
use Rattle.std.proofs.Common.{◌≡◌, ℕ, ◌≤◌, true, false, List, [], ◌∷◌, ◌++◌, Option, Some, None, inl, inr, refl, arith}
use Rattle.sctp_model.specs.numbers.Numbers.{u16_bytes, u32_bytes, u16_at, u32_at}
use Rattle.sctp_model.specs.wire.Typed.{starts_typed, typed_of}
use Rattle.sctp_model.specs.numbers.Serial.{tsn}
use Rattle.sctp_model.specs.messages.Format.{Interleaved, ordered_lane}
use Rattle.sctp_model.specs.wire.Chunk.{PieceMeaning, SackMeaning, IData, Sack, ShutdownAck, ShutdownComplete}
use Rattle.sctp_model.specs.wire.Chunk.{Shutdown as Says}
use Rattle.sctp_model.specs.wire.Packet.{Packet, size_of_packet}
use Rattle.sctp_model.specs.world.Calls.{Call}
use Rattle.sctp_model.specs.receiver.ReceiverView.{Handed}
use Rattle.sctp_model.specs.receiver.SackMade.{first_taken}
use Rattle.sctp_model.specs.end.EndView.{Tags, Established, ShutdownSent, ShutdownAckSent, Completed, EndView}
use Rattle.sctp_model.specs.end.Clock.{closed}
use Rattle.sctp_model.specs.end.Closing.{rested}
use Rattle.sctp_model.specs.end.PeerFaults.{packet_to, Unnoted}
use Rattle.sctp_model.specs.end.Acting.{SackCounts, ShutdownCounts, AckCompletes, CompleteCompleted, sack_heard, shutdown_heard}
use Rattle.sctp_model.specs.end.Strays.{Taken, Answer}
use Rattle.sctp_model.proofs.PacedEnds.{heard_unpaced}
use Rattle.sctp_model.specs.end.Arriving.{NoneLeft, Next, Last, EndsAnswered, ReadAs, no_notes, noted, acknowledges}
use Rattle.sctp_model.specs.end.Building.{packet_of}
use Rattle.sctp_model.specs.end.UserCalls.{send_answer, send_leaves, shut}
use Rattle.sctp_model.specs.world.World.{A, B, World, with_end, with_packet, with_log, end_now, came}
use Rattle.sctp_model.specs.world.Events.{told, Event, Send, Take, Build, Deliver, Shutdown, Outcome, Done, Told, Message, Sent, Acted}
use Rattle.sctp_model.specs.world.Steps.{accepted, Step, BuildsOne, FromBag, PacketComes, Sends, TakesOne, ShutsDown, Run, Rest, Then}
use Rattle.sctp_safety.proofs.machine.OpeningWorlds.{two, tags_a, opening, answers, w0, w9}
use Rattle.sctp_safety.proofs.machine.Handshake.{run, configured}
use Rattle.sctp_outcomes.specs.Examples.{AMessageArrives}
use Rattle.sctp_outcomes.proofs.stories.Ours.{premises_of_ours, opened_by_packets, run_on}
use Rattle.sctp_outcomes.proofs.stories.Packets.{packet_built, builds_are}
use Rattle.sctp_outcomes.proofs.stories.Acts.{bound_none, bound_more, after_data, data_acts, data_note}

abbrev pub tags_b : Tags
tags_b = record { own = 9; peer = 7 }

-- "Hi" on stream 0, in order, with payload protocol identifier 51
abbrev pub greeting : Call
greeting = record { lane = ordered_lane 0; payload = 51; bytes = 72 ∷ 105 ∷ []; until = None; limit = None }

-- A sends it
abbrev w10 : World
w10 = with_log (with_end w9 A (send_leaves (send_answer w9.a greeting) w9.a greeting)) A (accepted w9 A (send_answer w9.a greeting) greeting)

-- in one fragment
abbrev piece : PieceMeaning
piece = record { immediate = false; unordered = false; begin = true; end = true; tsn = 100; stream = 0; number = 0; word = 51; bytes = 72 ∷ 105 ∷ [] }

abbrev packet_3 : Packet
packet_3 = packet_of w10.a (IData piece ∷ [])

abbrev w11 : World
w11 = with_packet (with_end w10 A (packet_built (end_now w10 A) 0).after) A packet_3

step_11 : Step w10 (Build A) (Some (Sent 3 (size_of_packet (IData piece ∷ [])))) w11
unfolding u16_bytes u32_bytes u16_at u32_at starts_typed typed_of
step_11 = BuildsOne A (IData piece) [] (packet_built (end_now w10 A) 0).after (builds_are tags_a Established (end_now w10 A) 0 refl (bound_none w10.a.receiver refl))

-- it arrives at B, and waits for B's user
abbrev e12 : EndView
e12 = after_data (end_now w11 B) 0 piece

abbrev w12 : World
w12 = came w11 B (acknowledges Established (rested e12))

step_12 : Step w11 (Deliver A 3) (Some Acted) w12
unfolding u16_bytes u32_bytes u16_at u32_at starts_typed typed_of
step_12 = PacketComes (Deliver A 3) B (Some packet_3) (acknowledges Established (rested e12)) Taken (FromBag A 3 packet_3 refl) (ReadAs packet_3 (acknowledges Established (rested e12)) Taken (heard_unpaced (end_now w11 B) w11.draw packet_3 (rested e12) (noted (data_note (end_now w11 B) 0 piece) no_notes) Taken refl refl refl
    (Next (end_now w11 B) e12 (rested e12) (data_note (end_now w11 B) 0 piece) no_notes (noted (data_note (end_now w11 B) 0 piece) no_notes) (IData piece) [] Taken
    (data_acts Interleaved (end_now w11 B) tags_b Established 0 piece (bound_none w11.b.receiver refl) refl refl (omega arith) refl refl)
    (NoneLeft (rested e12) (noted (data_note (end_now w11 B) 0 piece) no_notes))) false (λ on. absurd (cc)) refl))

-- who takes it
abbrev pub arrived : Handed
arrived = record { first = 1; lane = ordered_lane 0; number = Some 0; payload = 51; bytes = 72 ∷ 105 ∷ [] }

abbrev e13 : EndView
e13 = record w12.b { receiver = first_taken w12.b.receiver 0 arrived [] }

abbrev w13 : World
w13 = with_end w12 B e13

step_13 : Step w12 (Take B 0) (Some (Message arrived)) w13
unfolding u16_bytes u32_bytes u16_at u32_at starts_typed typed_of
step_13 = TakesOne B 0 (Some arrived) e13 (record { receiver = first_taken w12.b.receiver 0 arrived []; takes = ([], refl, refl); leaves = refl })

-- B acknowledges it
abbrev sack : SackMeaning
sack = record { cumulative = 100; rwnd = 65536; blocks = []; duplicates = [] }

abbrev packet_4 : Packet
packet_4 = packet_of w13.b (Sack sack ∷ [])

abbrev w14 : World
w14 = with_packet (with_end w13 B (packet_built (end_now w13 B) 1).after) B packet_4

one_recorded : (i : ℕ) → w13.b.receiver.seen i ≡ true → i ≤ 1
unfolding u16_bytes u32_bytes u16_at u32_at starts_typed typed_of
one_recorded = bound_more (λ i. false) 1 1 (omega arith) (λ i on. absurd (cc))

step_14 : Step w13 (Build B) (Some (Sent 3 (size_of_packet (Sack sack ∷ [])))) w14
unfolding u16_bytes u32_bytes u16_at u32_at starts_typed typed_of
step_14 = BuildsOne B (Sack sack) [] (packet_built (end_now w13 B) 1).after (builds_are tags_b Established (end_now w13 B) 1 refl one_recorded)

-- and A hears of it
abbrev e15 : EndView
e15 = sack_heard (end_now w14 A) sack

abbrev w15 : World
w15 = came w14 A (rested e15)

step_15 : Step w14 (Deliver B 3) (Some Acted) w15
unfolding u16_bytes u32_bytes u16_at u32_at starts_typed typed_of
step_15 = PacketComes (Deliver B 3) A (Some packet_4) (rested e15) Taken (FromBag B 3 packet_4 refl) (ReadAs packet_4 (rested e15) Taken (heard_unpaced (end_now w14 A) w14.draw packet_4 (rested e15) (noted Unnoted no_notes) Taken refl refl refl
    (Next (end_now w14 A) e15 (rested e15) Unnoted no_notes (noted Unnoted no_notes) (Sack sack) [] Taken
    (SackCounts refl refl)
    (NoneLeft (rested e15) (noted Unnoted no_notes))) false (λ on. absurd (cc)) refl))

-- ---- closing

-- A's user shuts the association, and A is drained
abbrev w16 : World
w16 = with_end w15 A (shut w15.a)

step_16 : Step w15 (Shutdown A) (Some Done) w16
unfolding u16_bytes u32_bytes u16_at u32_at starts_typed typed_of
step_16 = ShutsDown A

abbrev packet_5 : Packet
packet_5 = packet_of w16.a (Says (tsn 200 0) ∷ [])

abbrev w17 : World
w17 = with_packet (with_end w16 A (packet_built (end_now w16 A) 0).after) A packet_5

step_17 : Step w16 (Build A) (Some (Sent 4 (size_of_packet (Says (tsn 200 0) ∷ [])))) w17
unfolding u16_bytes u32_bytes u16_at u32_at starts_typed typed_of
step_17 = BuildsOne A (Says (tsn 200 0)) [] (packet_built (end_now w16 A) 0).after (builds_are tags_a ShutdownSent (end_now w16 A) 0 refl (bound_none w16.a.receiver refl))

-- so is B
abbrev e18 : EndView
e18 = shutdown_heard tags_b (end_now w17 B) (tsn 200 0)

abbrev w18 : World
w18 = came w17 B (rested e18)

step_18 : Step w17 (Deliver A 4) (Some Acted) w18
unfolding u16_bytes u32_bytes u16_at u32_at starts_typed typed_of
step_18 = PacketComes (Deliver A 4) B (Some packet_5) (rested e18) Taken (FromBag A 4 packet_5 refl) (ReadAs packet_5 (rested e18) Taken (heard_unpaced (end_now w17 B) w17.draw packet_5 (rested e18) (noted Unnoted no_notes) Taken refl refl refl
    (Next (end_now w17 B) e18 (rested e18) Unnoted no_notes (noted Unnoted no_notes) (Says (tsn 200 0)) [] Taken
    (ShutdownCounts tags_b Established refl refl refl)
    (NoneLeft (rested e18) (noted Unnoted no_notes))) false (λ on. absurd (cc)) refl))

abbrev packet_6 : Packet
packet_6 = packet_of w18.b (ShutdownAck ∷ [])

abbrev w19 : World
w19 = with_packet (with_end w18 B (packet_built (end_now w18 B) 1).after) B packet_6

step_19 : Step w18 (Build B) (Some (Sent 4 (size_of_packet (ShutdownAck ∷ [])))) w19
unfolding u16_bytes u32_bytes u16_at u32_at starts_typed typed_of
step_19 = BuildsOne B ShutdownAck [] (packet_built (end_now w18 B) 1).after (builds_are tags_b ShutdownAckSent (end_now w18 B) 1 refl one_recorded)

-- both are completed
abbrev packet_7 : Packet
packet_7 = packet_to (end_now w19 A).configuration 9 (ShutdownComplete false)

abbrev w20 : World
w20 = with_packet (came w19 A (closed Completed (end_now w19 A))) A packet_7

step_20 : Step w19 (Deliver B 4) (Some (told w19 A (Answer packet_7))) w20
unfolding u16_bytes u32_bytes u16_at u32_at starts_typed typed_of
step_20 = PacketComes (Deliver B 4) A (Some packet_6) (closed Completed (end_now w19 A)) (Answer packet_7) (FromBag B 4 packet_6 refl) (ReadAs packet_6 (closed Completed (end_now w19 A)) (Answer packet_7) (heard_unpaced (end_now w19 A) w19.draw packet_6 (closed Completed (end_now w19 A)) no_notes (Answer packet_7) refl refl refl
    (EndsAnswered (end_now w19 A) (closed Completed (end_now w19 A)) no_notes ShutdownAck [] packet_7 (AckCompletes tags_a ShutdownSent refl refl)) false (λ on. absurd (cc)) refl))

abbrev w21 : World
w21 = came w20 B (closed Completed (end_now w20 B))

step_21 : Step w20 (Deliver A 5) (Some Acted) w21
unfolding u16_bytes u32_bytes u16_at u32_at starts_typed typed_of
step_21 = PacketComes (Deliver A 5) B (Some packet_7) (closed Completed (end_now w20 B)) Taken (FromBag A 5 packet_7 refl) (ReadAs packet_7 (closed Completed (end_now w20 B)) Taken (heard_unpaced (end_now w20 B) w20.draw packet_7 (closed Completed (end_now w20 B)) no_notes Taken refl refl refl
    (Last (end_now w20 B) (closed Completed (end_now w20 B)) no_notes (ShutdownComplete false) [] (CompleteCompleted refl)) false (λ on. absurd (cc)) refl))

-- ---- the run

abbrev story : List Event
story = Send A greeting ∷ Build A ∷ Deliver A 3 ∷ Take B 0 ∷ Build B ∷ Deliver B 3 ∷ Shutdown A ∷ Build A ∷ Deliver A 4 ∷ Build B ∷ Deliver B 4 ∷ Deliver A 5 ∷ []

abbrev told_story : List (Option Outcome)
told_story =
    Some (Told (send_answer w9.a greeting)) ∷ Some (Sent 3 (size_of_packet (IData piece ∷ []))) ∷ Some Acted ∷ Some (Message arrived)
    ∷ Some (Sent 3 (size_of_packet (Sack sack ∷ []))) ∷ Some Acted ∷ Some Done ∷ Some (Sent 4 (size_of_packet (Says (tsn 200 0) ∷ []))) ∷ Some Acted
    ∷ Some (Sent 4 (size_of_packet (ShutdownAck ∷ []))) ∷ Some (told w19 A (Answer packet_7)) ∷ Some Acted ∷ []

goes_on : Run w9 story told_story w21
goes_on =
    Then w9 w10 w21 _ _ _ _ (Sends A greeting) (Then w10 w11 w21 _ _ _ _ step_11 (Then w11 w12 w21 _ _ _ _ step_12 (Then w12 w13 w21 _ _ _ _ step_13
    (Then w13 w14 w21 _ _ _ _ step_14 (Then w14 w15 w21 _ _ _ _ step_15 (Then w15 w16 w21 _ _ _ _ step_16 (Then w16 w17 w21 _ _ _ _ step_17
    (Then w17 w18 w21 _ _ _ _ step_18 (Then w18 w19 w21 _ _ _ _ step_19 (Then w19 w20 w21 _ _ _ _ step_20 (Then w20 w21 w21 _ _ _ _ step_21 (Rest w21))))))))))))

pub a_message_arrives : AMessageArrives
unfolding u16_bytes u32_bytes u16_at u32_at starts_typed typed_of
a_message_arrives = record {
  events = opening ++ story;
  last = w21;
  run = record {
    setup = two;
    reached = record {
      configured = configured;
      answers = answers ++ told_story;
      run = run_on w0 w9 w21 opening story answers told_story run goes_on;
      premises = premises_of_ours two.sealing (opening ++ story) refl;
    };
  };
  by_packets = opened_by_packets (opening ++ story) refl;
  call = greeting;
  sent = inr (inr (inr (inr (inr (inr (inr (inr (inr (inl refl)))))))));
  message = arrived;
  taken = refl;
  bytes = refl;
  payload = refl;
  a = refl;
  b = refl;
}
