-- A message arrives by the clock of its receiver, and is sent again by that of its sender.
use Rattle.std.proofs.Common.{true, false, List, [], ◌∷◌, Option, Some, None, inl, inr, refl, arith}
use Rattle.sctp_model.specs.messages.Format.{Plain, ordered_lane}
use Rattle.sctp_model.specs.wire.Chunk.{PieceMeaning, Data}
use Rattle.sctp_model.specs.wire.Packet.{Packet, size_of_packet}
use Rattle.sctp_model.specs.world.Calls.{Call}
use Rattle.sctp_model.specs.receiver.ReceiverView.{Handed}
use Rattle.sctp_model.specs.end.EndView.{Established, EndView}
use Rattle.sctp_model.specs.end.Closing.{rested}
use Rattle.sctp_model.specs.end.Moments.{ticked}
use Rattle.sctp_model.specs.end.Strays.{Taken}
use Rattle.sctp_model.proofs.PacedEnds.{heard_unpaced}
use Rattle.sctp_model.specs.end.Arriving.{NoneLeft, Next, ReadAs, no_notes, noted, acknowledges}
use Rattle.sctp_model.specs.end.Building.{packet_of}
use Rattle.sctp_model.specs.end.UserCalls.{send_answer}
use Rattle.sctp_model.specs.world.World.{Side, A, B, World, end_of, clock_of, with_end, with_packet, with_log, with_clock, logged, end_now, came, start}
use Rattle.sctp_model.specs.world.Events.{Event, OpenBoth, Later, Moment, Send, Build, Deliver, Outcome, Done, Told, Sent, Acted}
use Rattle.sctp_model.specs.world.Steps.{Step, BuildsOne, FromBag, PacketComes, Sends, TimeGoesOn, MomentComes, Run, Rest, Then}
use Rattle.sctp_outcomes.specs.Clocks.{AMessageArrivesByTwoClocks}
use Rattle.sctp_outcomes.proofs.stories.Small.{small, small_configured, of_a, of_b, tags_a, tags_b, open_world, opens, after_send}
use Rattle.sctp_outcomes.proofs.stories.Packets.{packet_built, builds_are}
use Rattle.sctp_outcomes.proofs.stories.Acts.{bound_none, after_data, data_acts, data_note}
use Rattle.sctp_outcomes.proofs.stories.Ours.{premises_of_ours}

-- ---- the worlds

-- an endpoint is notified at the time of its clock
abbrev after_moment : World → Side → World
after_moment w s = with_log (with_end w s (ticked (end_of w s) (clock_of w s))) s (logged w s (ticked (end_of w s) (clock_of w s)))

abbrev call : Call
call = record { lane = ordered_lane 0; payload = 0; bytes = 1 ∷ []; until = None; limit = None }

abbrev piece : PieceMeaning
piece = record { immediate = false; unordered = false; begin = true; end = true; tsn = 100; stream = 0; number = 0; word = 0; bytes = 1 ∷ [] }

abbrev p0 : World
p0 = open_world false

abbrev p1 : World
p1 = after_send p0 call

abbrev p2 : World
p2 = with_clock p1 A 10

abbrev packet : Packet
packet = packet_of p2.a (Data piece ∷ [])

abbrev p3 : World
p3 = with_packet (with_end p2 A (packet_built (end_now p2 A) 0).after) A packet

built_3 : Step p2 (Build A) (Some (Sent 1 (size_of_packet (Data piece ∷ [])))) p3
built_3 = BuildsOne A (Data piece) [] (packet_built (end_now p2 A) 0).after (builds_are tags_a Established (end_now p2 A) 0 refl (bound_none p2.a.receiver refl))

-- B hands in what arrived, and then notifies its endpoint of the time
abbrev p4 : World
p4 = with_clock p3 B 5

abbrev handed_on : EndView
handed_on = after_data (end_now p4 B) 0 piece

abbrev p5 : World
p5 = came p4 B (acknowledges Established (rested handed_on))

comes_5 : Step p4 (Deliver A 1) (Some Acted) p5
comes_5 = PacketComes (Deliver A 1) B (Some packet) (acknowledges Established (rested handed_on)) Taken (FromBag A 1 packet refl)
    (ReadAs packet (acknowledges Established (rested handed_on)) Taken
    (heard_unpaced (end_now p4 B) p4.draw packet (rested handed_on) (noted (data_note (end_now p4 B) 0 piece) no_notes) Taken refl refl refl
    (Next (end_now p4 B) handed_on (rested handed_on) (data_note (end_now p4 B) 0 piece) no_notes (noted (data_note (end_now p4 B) 0 piece) no_notes) (Data piece) [] Taken
    (data_acts Plain (end_now p4 B) tags_b Established 0 piece (bound_none p4.b.receiver refl) refl refl (omega arith) refl refl)
    (NoneLeft (rested handed_on) (noted (data_note (end_now p4 B) 0 piece) no_notes))) false (λ on. absurd (cc)) refl))

abbrev p6 : World
p6 = after_moment p5 B

-- no acknowledgement arrives at A, whose data timer expires
abbrev p7 : World
p7 = with_clock p6 A 7000

abbrev p8 : World
p8 = after_moment p7 A

abbrev p9 : World
p9 = with_packet (with_end p8 A (packet_built (end_now p8 A) 0).after) A packet

built_9 : Step p8 (Build A) (Some (Sent 2 (size_of_packet (Data piece ∷ [])))) p9
built_9 = BuildsOne A (Data piece) [] (packet_built (end_now p8 A) 0).after (builds_are tags_a Established (end_now p8 A) 0 refl (bound_none p8.a.receiver refl))

-- ---- the run

abbrev message : Handed
message = record { first = 1; lane = ordered_lane 0; number = Some 0; payload = 0; bytes = 1 ∷ [] }

abbrev front : List Event
front = OpenBoth of_a of_b ∷ Send A call ∷ Later A 10 ∷ Build A ∷ []

abbrev back : List Event
back = Later A 7000 ∷ Moment A ∷ Build A ∷ []

abbrev events : List Event
events = OpenBoth of_a of_b ∷ Send A call ∷ Later A 10 ∷ Build A ∷ Later B 5 ∷ Deliver A 1 ∷ Moment B ∷ back

abbrev answers : List (Option Outcome)
answers =
    Some Done ∷ Some (Told (send_answer p0.a call)) ∷ Some Done ∷ Some (Sent 1 (size_of_packet (Data piece ∷ []))) ∷ Some Done ∷ Some Acted ∷ Some Done
    ∷ Some Done ∷ Some Done ∷ Some (Sent 2 (size_of_packet (Data piece ∷ []))) ∷ []

the_run : Run (start (small false)) events answers p9
the_run =
    Then (start (small false)) p0 p9 _ _ _ _ (opens false) (Then p0 p1 p9 _ _ _ _ (Sends A call) (Then p1 p2 p9 _ _ _ _ (TimeGoesOn A 10 (omega arith))
    (Then p2 p3 p9 _ _ _ _ built_3 (Then p3 p4 p9 _ _ _ _ (TimeGoesOn B 5 (omega arith)) (Then p4 p5 p9 _ _ _ _ comes_5 (Then p5 p6 p9 _ _ _ _ (MomentComes B)
    (Then p6 p7 p9 _ _ _ _ (TimeGoesOn A 7000 (omega arith)) (Then p7 p8 p9 _ _ _ _ (MomentComes A) (Then p8 p9 p9 _ _ _ _ built_9 (Rest p9))))))))))

pub a_message_arrives_by_two_clocks : AMessageArrivesByTwoClocks
a_message_arrives_by_two_clocks = record {
  events = events;
  last = p9;
  run = record {
    setup = small false;
    reached = record { configured = small_configured false; answers = answers; run = the_run; premises = premises_of_ours (small false).sealing events refl };
  };
  call = call;
  sent = inr (inl refl);
  front = front;
  back = back;
  loop = refl;
  message = message;
  delivered = refl;
  bytes = refl;
  again = refl;
  clock_a = refl;
  clock_b = refl;
  moment_a = refl;
  moment_b = refl;
}
