-- Under I-DATA a message in part is abandoned: it takes an end mark, and the receiver lets its fragment go.
use Rattle.std.proofs.Common.{◌≡◌, ℕ, ◌≤◌, true, false, List, [], ◌∷◌, replicate, Option, Some, None, inl, inr, refl, arith}
use Rattle.sctp_model.specs.messages.Format.{Interleaved, ordered_lane}
use Rattle.sctp_model.specs.wire.Chunk.{PieceMeaning, ForwardMeaning, IData, IForwardTsn}
use Rattle.sctp_model.specs.wire.Packet.{Packet, size_of_packet}
use Rattle.sctp_model.specs.world.Calls.{Call}
use Rattle.sctp_model.specs.end.EndView.{Established, EndView}
use Rattle.sctp_model.specs.end.Closing.{rested}
use Rattle.sctp_model.specs.end.Strays.{Taken}
use Rattle.sctp_model.specs.end.PeerFaults.{ToAcknowledge}
use Rattle.sctp_model.proofs.PacedEnds.{heard_unpaced}
use Rattle.sctp_model.specs.end.Arriving.{NoneLeft, Next, ReadAs, no_notes, noted, acknowledges}
use Rattle.sctp_model.specs.end.Building.{packet_of}
use Rattle.sctp_model.specs.end.UserCalls.{send_answer, abandons}
use Rattle.sctp_model.specs.world.World.{A, B, World, with_end, with_packet, end_now, came, start}
use Rattle.sctp_model.specs.world.Events.{Event, OpenBoth, Send, Abandon, Build, Deliver, Outcome, Done, Told, Fate, Sent, Acted}
use Rattle.sctp_model.specs.world.Steps.{Step, BuildsOne, FromBag, PacketComes, Sends, AbandonsOne, Run, Rest, Then}
use Rattle.sctp_outcomes.specs.Examples.{AMessageIsEnded}
use Rattle.sctp_outcomes.proofs.stories.Small.{small, small_configured, of_a, of_b, tags_a, tags_b, open_world, opens, after_send, after_abandon}
use Rattle.sctp_outcomes.proofs.stories.Packets.{packet_built, builds_are}
use Rattle.sctp_outcomes.proofs.stories.Acts.{bound_none, bound_more, after_data, data_acts, after_skip, forward_acts, data_note}
use Rattle.sctp_outcomes.proofs.stories.Ours.{premises_of_ours}

-- one byte more than a fragment holds
abbrev long : Call
long = record { lane = ordered_lane 0; payload = 0; bytes = replicate 545 1; until = None; limit = None }

abbrev q0 : World
q0 = open_world true

abbrev q1 : World
q1 = after_send q0 long

abbrev first_piece : PieceMeaning
first_piece = record { immediate = false; unordered = false; begin = true; end = false; tsn = 100; stream = 0; number = 0; word = 0; bytes = replicate 544 1 }

abbrev packet_1 : Packet
packet_1 = packet_of q1.a (IData first_piece ∷ [])

abbrev q2 : World
q2 = with_packet (with_end q1 A (packet_built (end_now q1 A) 0).after) A packet_1

built_2 : Step q1 (Build A) (Some (Sent 1 (size_of_packet (IData first_piece ∷ [])))) q2
built_2 = BuildsOne A (IData first_piece) [] (packet_built (end_now q1 A) 0).after (builds_are tags_a Established (end_now q1 A) 0 refl (bound_none q1.a.receiver refl))

-- B keeps the fragment
abbrev kept : EndView
kept = after_data (end_now q2 B) 0 first_piece

abbrev q3 : World
q3 = came q2 B (acknowledges Established (rested kept))

comes_3 : Step q2 (Deliver A 1) (Some Acted) q3
comes_3 = PacketComes (Deliver A 1) B (Some packet_1) (acknowledges Established (rested kept)) Taken (FromBag A 1 packet_1 refl) (ReadAs packet_1 (acknowledges Established (rested kept)) Taken (heard_unpaced (end_now q2 B) q2.draw packet_1 (rested kept) (noted (data_note (end_now q2 B) 0 first_piece) no_notes) Taken refl refl refl
    (Next (end_now q2 B) kept (rested kept) (data_note (end_now q2 B) 0 first_piece) no_notes (noted (data_note (end_now q2 B) 0 first_piece) no_notes) (IData first_piece) [] Taken
    (data_acts Interleaved (end_now q2 B) tags_b Established 0 first_piece (bound_none q2.b.receiver refl) refl refl (omega arith) refl refl)
    (NoneLeft (rested kept) (noted (data_note (end_now q2 B) 0 first_piece) no_notes))) false (λ on. absurd (cc)) refl))

-- A's user abandons the message, which takes index 2 for its end mark
abbrev q4 : World
q4 = after_abandon q3 1

abbrev passes : ForwardMeaning
passes = record { cumulative = 101; skips = record { stream = 0; unordered = false; number = 0 } ∷ [] }

abbrev packet_2 : Packet
packet_2 = packet_of q4.a (IForwardTsn passes ∷ [])

abbrev q5 : World
q5 = with_packet (with_end q4 A (packet_built (end_now q4 A) 0).after) A packet_2

built_5 : Step q4 (Build A) (Some (Sent 2 (size_of_packet (IForwardTsn passes ∷ [])))) q5
built_5 = BuildsOne A (IForwardTsn passes) [] (packet_built (end_now q4 A) 0).after (builds_are tags_a Established (end_now q4 A) 0 refl (bound_none q4.a.receiver refl))

-- B lets the fragment go
abbrev skipped : EndView
skipped = after_skip (end_now q5 B) 1 passes

abbrev q6 : World
q6 = came q5 B (acknowledges Established (rested skipped))

one_recorded : (i : ℕ) → q5.b.receiver.seen i ≡ true → i ≤ 1
one_recorded = bound_more (λ i. false) 1 1 (omega arith) (λ i on. absurd (cc))

comes_6 : Step q5 (Deliver A 2) (Some Acted) q6
comes_6 = PacketComes (Deliver A 2) B (Some packet_2) (acknowledges Established (rested skipped)) Taken (FromBag A 2 packet_2 refl) (ReadAs packet_2 (acknowledges Established (rested skipped)) Taken (heard_unpaced (end_now q5 B) q5.draw packet_2 (rested skipped) (noted (ToAcknowledge false true) no_notes) Taken refl refl refl
    (Next (end_now q5 B) skipped (rested skipped) (ToAcknowledge false true) no_notes (noted (ToAcknowledge false true) no_notes) (IForwardTsn passes) [] Taken
    (forward_acts Interleaved (end_now q5 B) tags_b Established 1 passes one_recorded refl refl refl refl)
    (NoneLeft (rested skipped) (noted (ToAcknowledge false true) no_notes))) false (λ on. absurd (cc)) refl))

abbrev ending : List Event
ending = OpenBoth of_a of_b ∷ Send A long ∷ Build A ∷ Deliver A 1 ∷ Abandon A 1 ∷ Build A ∷ Deliver A 2 ∷ []

abbrev told_ending : List (Option Outcome)
told_ending =
    Some Done ∷ Some (Told (send_answer q0.a long)) ∷ Some (Sent 1 (size_of_packet (IData first_piece ∷ []))) ∷ Some Acted ∷ Some (Fate (abandons q3.a 1))
    ∷ Some (Sent 2 (size_of_packet (IForwardTsn passes ∷ []))) ∷ Some Acted ∷ []

ending_run : Run (start (small true)) ending told_ending q6
ending_run =
    Then (start (small true)) q0 q6 _ _ _ _ (opens true) (Then q0 q1 q6 _ _ _ _ (Sends A long) (Then q1 q2 q6 _ _ _ _ built_2 (Then q2 q3 q6 _ _ _ _ comes_3
    (Then q3 q4 q6 _ _ _ _ (AbandonsOne A 1) (Then q4 q5 q6 _ _ _ _ built_5 (Then q5 q6 q6 _ _ _ _ comes_6 (Rest q6)))))))

pub a_message_is_ended : AMessageIsEnded
a_message_is_ended = record {
  events = ending;
  last = q6;
  run = record {
    setup = small true;
    reached = record { configured = small_configured true; answers = told_ending; run = ending_run; premises = premises_of_ours (small true).sealing ending refl };
  };
  interleaved = refl;
  call = long;
  sent = inr (inl refl);
  came = inr (inr (inr (inl refl)));
  named = inr (inr (inr (inr (inl refl))));
  ended = refl;
  passed = refl;
  gone = refl;
  nothing = refl;
}
