-- Under DATA a packet is lost, and its message abandoned: the FORWARD-TSN passes it over, and the next message is delivered.
use Rattle.std.proofs.Common.{true, false, List, [], ◌∷◌, Option, Some, None, inl, inr, refl, arith}
use Rattle.sctp_model.specs.numbers.Lists.{Has}
use Rattle.sctp_model.specs.messages.Format.{Plain, ordered_lane}
use Rattle.sctp_model.specs.wire.Chunk.{PieceMeaning, ForwardMeaning, Data, ForwardTsn}
use Rattle.sctp_model.specs.wire.Packet.{Packet, size_of_packet}
use Rattle.sctp_model.specs.world.Calls.{Call}
use Rattle.sctp_model.specs.receiver.ReceiverView.{Handed}
use Rattle.sctp_model.specs.end.EndView.{Established, EndView}
use Rattle.sctp_model.specs.end.Closing.{rested}
use Rattle.sctp_model.specs.end.Strays.{Taken}
use Rattle.sctp_model.specs.end.PeerFaults.{ToAcknowledge}
use Rattle.sctp_model.proofs.PacedEnds.{heard_unpaced}
use Rattle.sctp_model.specs.end.Arriving.{NoneLeft, Next, ReadAs, no_notes, noted, acknowledges}
use Rattle.sctp_model.specs.end.Building.{packet_of}
use Rattle.sctp_model.specs.end.UserCalls.{send_answer, abandons}
use Rattle.sctp_model.specs.world.World.{A, B, World, with_end, with_packet, end_now, came, start}
use Rattle.sctp_model.specs.world.Events.{Event, OpenBoth, Send, Abandon, Build, Deliver, Outcome, Done, Told, Fate, Sent, Acted}
use Rattle.sctp_model.specs.world.Steps.{Step, BuildsOne, FromBag, PacketComes, Sends, AbandonsOne, Run, Rest, Then}
use Rattle.sctp_outcomes.specs.Examples.{AMessageIsPassedOver}
use Rattle.sctp_outcomes.proofs.stories.Small.{small, small_configured, of_a, of_b, tags_a, tags_b, open_world, opens, after_send, after_abandon}
use Rattle.sctp_outcomes.proofs.stories.Packets.{packet_built, builds_are}
use Rattle.sctp_outcomes.proofs.stories.Acts.{bound_none, after_data, data_acts, after_skip, forward_acts, data_note}
use Rattle.sctp_outcomes.proofs.stories.Ours.{premises_of_ours}

abbrev lost : Call
lost = record { lane = ordered_lane 0; payload = 0; bytes = 1 ∷ []; until = None; limit = None }

abbrev later : Call
later = record { lane = ordered_lane 0; payload = 0; bytes = 2 ∷ []; until = None; limit = None }

abbrev p0 : World
p0 = open_world false

abbrev p1 : World
p1 = after_send p0 lost

abbrev first_piece : PieceMeaning
first_piece = record { immediate = false; unordered = false; begin = true; end = true; tsn = 100; stream = 0; number = 0; word = 0; bytes = 1 ∷ [] }

abbrev p2 : World
p2 = with_packet (with_end p1 A (packet_built (end_now p1 A) 0).after) A (packet_of p1.a (Data first_piece ∷ []))

built_2 : Step p1 (Build A) (Some (Sent 1 (size_of_packet (Data first_piece ∷ [])))) p2
built_2 = BuildsOne A (Data first_piece) [] (packet_built (end_now p1 A) 0).after (builds_are tags_a Established (end_now p1 A) 0 refl (bound_none p1.a.receiver refl))

-- the packet never arrives
abbrev p3 : World
p3 = after_abandon p2 1

abbrev p4 : World
p4 = after_send p3 later

-- what A builds next passes over it, and holds the later message
abbrev passes : ForwardMeaning
passes = record { cumulative = 100; skips = record { stream = 0; unordered = false; number = 0 } ∷ [] }

abbrev second_piece : PieceMeaning
second_piece = record { immediate = false; unordered = false; begin = true; end = true; tsn = 101; stream = 0; number = 1; word = 0; bytes = 2 ∷ [] }

abbrev packet_2 : Packet
packet_2 = packet_of p4.a (ForwardTsn passes ∷ Data second_piece ∷ [])

abbrev p5 : World
p5 = with_packet (with_end p4 A (packet_built (end_now p4 A) 0).after) A packet_2

built_5 : Step p4 (Build A) (Some (Sent 2 (size_of_packet (ForwardTsn passes ∷ Data second_piece ∷ [])))) p5
built_5 = BuildsOne A (ForwardTsn passes) (Data second_piece ∷ []) (packet_built (end_now p4 A) 0).after (builds_are tags_a Established (end_now p4 A) 0 refl (bound_none p4.a.receiver refl))

abbrev skipped : EndView
skipped = after_skip (end_now p5 B) 0 passes

abbrev handed_on : EndView
handed_on = after_data (rested skipped) 0 second_piece

abbrev p6 : World
p6 = came p5 B (acknowledges Established (rested handed_on))

comes_6 : Step p5 (Deliver A 2) (Some Acted) p6
comes_6 = PacketComes (Deliver A 2) B (Some packet_2) (acknowledges Established (rested handed_on)) Taken (FromBag A 2 packet_2 refl) (ReadAs packet_2 (acknowledges Established (rested handed_on)) Taken (heard_unpaced (end_now p5 B) p5.draw packet_2 (rested handed_on) (noted (data_note (rested skipped) 0 second_piece) (noted (ToAcknowledge false true) no_notes)) Taken refl refl refl
    (Next (end_now p5 B) skipped (rested handed_on) (ToAcknowledge false true) no_notes (noted (data_note (rested skipped) 0 second_piece) (noted (ToAcknowledge false true) no_notes)) (ForwardTsn passes) (Data second_piece ∷ []) Taken
    (forward_acts Plain (end_now p5 B) tags_b Established 0 passes (bound_none p5.b.receiver refl) refl refl refl refl)
    (Next (rested skipped) handed_on (rested handed_on) (data_note (rested skipped) 0 second_piece) (noted (ToAcknowledge false true) no_notes) (noted (data_note (rested skipped) 0 second_piece) (noted (ToAcknowledge false true) no_notes)) (Data second_piece) [] Taken
    (data_acts Plain (rested skipped) tags_b Established 0 second_piece (bound_none (rested skipped).receiver refl) refl refl (omega arith) refl refl)
    (NoneLeft (rested handed_on) (noted (data_note (rested skipped) 0 second_piece) (noted (ToAcknowledge false true) no_notes))))) false (λ on. absurd (cc)) refl))

abbrev message : Handed
message = record { first = 2; lane = ordered_lane 0; number = Some 1; payload = 0; bytes = 2 ∷ [] }

abbrev passing : List Event
passing = OpenBoth of_a of_b ∷ Send A lost ∷ Build A ∷ Abandon A 1 ∷ Send A later ∷ Build A ∷ Deliver A 2 ∷ []

abbrev told_passing : List (Option Outcome)
told_passing =
    Some Done ∷ Some (Told (send_answer p0.a lost)) ∷ Some (Sent 1 (size_of_packet (Data first_piece ∷ []))) ∷ Some (Fate (abandons p2.a 1))
    ∷ Some (Told (send_answer p3.a later)) ∷ Some (Sent 2 (size_of_packet (ForwardTsn passes ∷ Data second_piece ∷ []))) ∷ Some Acted ∷ []

passing_run : Run (start (small false)) passing told_passing p6
passing_run =
    Then (start (small false)) p0 p6 _ _ _ _ (opens false) (Then p0 p1 p6 _ _ _ _ (Sends A lost) (Then p1 p2 p6 _ _ _ _ built_2 (Then p2 p3 p6 _ _ _ _ (AbandonsOne A 1)
    (Then p3 p4 p6 _ _ _ _ (Sends A later) (Then p4 p5 p6 _ _ _ _ built_5 (Then p5 p6 p6 _ _ _ _ comes_6 (Rest p6)))))))

never_comes : Has passing (Deliver A 1) → ⊥
never_comes (inl e) = absurd (cc)
never_comes (inr (inl e)) = absurd (cc)
never_comes (inr (inr (inl e))) = absurd (cc)
never_comes (inr (inr (inr (inl e)))) = absurd (cc)
never_comes (inr (inr (inr (inr (inl e))))) = absurd (cc)
never_comes (inr (inr (inr (inr (inr (inl e)))))) = absurd (cc)
never_comes (inr (inr (inr (inr (inr (inr (inl e))))))) = absurd (cc)
never_comes (inr (inr (inr (inr (inr (inr (inr none))))))) = none

pub a_message_is_passed_over : AMessageIsPassedOver
a_message_is_passed_over = record {
  events = passing;
  last = p6;
  run = record {
    setup = small false;
    reached = record { configured = small_configured false; answers = told_passing; run = passing_run; premises = premises_of_ours (small false).sealing passing refl };
  };
  plain = refl;
  first = lost;
  second = later;
  sent = (inr (inl refl), inr (inr (inr (inr (inl refl)))));
  lost = never_comes;
  named = inr (inr (inr (inl refl)));
  abandoned = refl;
  message = message;
  only = refl;
  number = refl;
  bytes = refl;
  passed = refl;
}
