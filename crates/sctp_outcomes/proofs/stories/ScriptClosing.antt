-- The script's end, event by event: each packet arrives twice, also when both endpoints are closed.
use Rattle.std.proofs.Common.{◌≡◌, ℕ, ◌≤◌, true, false, [], ◌∷◌, Some, refl, arith}
use Rattle.sctp_model.specs.numbers.Numbers.{u16_bytes, u32_bytes, u16_at, u32_at}
use Rattle.sctp_model.specs.wire.Typed.{starts_typed, typed_of}
use Rattle.sctp_model.specs.numbers.Serial.{tsn}
use Rattle.sctp_model.specs.wire.Chunk.{ShutdownAck, ShutdownComplete}
use Rattle.sctp_model.specs.wire.Chunk.{Shutdown as Says}
use Rattle.sctp_model.specs.wire.Packet.{Packet}
use Rattle.sctp_model.specs.end.EndView.{Established, ShutdownSent, ShutdownAckSent, Completed, EndView}
use Rattle.sctp_model.specs.end.Clock.{closed}
use Rattle.sctp_model.specs.end.Closing.{with_due, rested}
use Rattle.sctp_model.specs.end.PeerFaults.{STATE, packet_to, Unnoted}
use Rattle.sctp_model.specs.end.Acting.{ShutdownCounts, Again, AckCompletes, CompleteCompleted, shutdown_heard}
use Rattle.sctp_model.specs.end.Strays.{Taken, Dropped, Answer, stray_verdict}
use Rattle.sctp_model.proofs.PacedEnds.{heard_unpaced}
use Rattle.sctp_model.specs.end.Arriving.{Stray, NoneLeft, Next, Last, ReadAs, no_notes, noted}
use Rattle.sctp_model.specs.end.Arriving.{EndsAnswered}
use Rattle.sctp_model.specs.end.Building.{packet_of}
use Rattle.sctp_model.specs.end.UserCalls.{shut}
use Rattle.sctp_model.specs.world.World.{A, B, World, with_end, with_packet, end_now, came}
use Rattle.sctp_model.specs.world.Events.{Shutdown, Build, Deliver, Done, Sent, Acted, Answered, NotActed, with_verdict}
use Rattle.sctp_model.specs.world.Steps.{Step, BuildsOne, FromBag, PacketComes, ShutsDown, Run, Rest, Then}
use Rattle.sctp_safety.proofs.machine.OpeningWorlds.{open_seal}
use Rattle.sctp_outcomes.specs.Script.{closing_events, closing_told, TheScriptRuns}
use Rattle.sctp_outcomes.proofs.stories.Packets.{packet_built, builds_are}
use Rattle.sctp_outcomes.proofs.stories.Acts.{bound_none, bound_more}
use Rattle.sctp_outcomes.proofs.stories.ScriptOpening.{tags_a, tags_b, s13, opening_runs}
use Rattle.sctp_outcomes.proofs.stories.ScriptSending.{s21, sending_runs}

abbrev s22 : World
s22 = with_end s21 A (shut s21.a)

step_22 : Step s21 (Shutdown A) (Some Done) s22
unfolding u16_bytes u32_bytes u16_at u32_at starts_typed typed_of
step_22 = ShutsDown A

abbrev packet_4 : Packet
packet_4 = packet_of s22.a (Says (tsn 500 0) ∷ [])

abbrev s23 : World
s23 = with_packet (with_end s22 A (packet_built (end_now s22 A) 0).after) A packet_4

step_23 : Step s22 (Build A) (Some (Sent 4 20)) s23
unfolding u16_bytes u32_bytes u16_at u32_at starts_typed typed_of
step_23 = BuildsOne A (Says (tsn 500 0)) [] (packet_built (end_now s22 A) 0).after (builds_are tags_a ShutdownSent (end_now s22 A) 0 refl (bound_none s22.a.receiver refl))

-- the listener is drained, and answers; the same again
abbrev e24 : EndView
e24 = shutdown_heard tags_b (end_now s23 B) (tsn 500 0)

abbrev s24 : World
s24 = came s23 B (rested e24)

step_24 : Step s23 (Deliver A 4) (Some Acted) s24
unfolding u16_bytes u32_bytes u16_at u32_at starts_typed typed_of
step_24 = PacketComes (Deliver A 4) B (Some packet_4) (rested e24) Taken (FromBag A 4 packet_4 refl) (ReadAs packet_4 (rested e24) Taken (heard_unpaced (end_now s23 B) s23.draw packet_4 (rested e24) (noted Unnoted no_notes) Taken refl refl refl
    (Next (end_now s23 B) e24 (rested e24) Unnoted no_notes (noted Unnoted no_notes) (Says (tsn 500 0)) [] Taken
    (ShutdownCounts tags_b Established refl refl refl)
    (NoneLeft (rested e24) (noted Unnoted no_notes))) false (λ on. absurd (cc)) refl))

abbrev e25 : EndView
e25 = with_due (record (end_now s24 B).due { shutdown_ack = true }) (end_now s24 B)

abbrev s25 : World
s25 = came s24 B (rested e25)

step_25 : Step s24 (Deliver A 4) (Some Acted) s25
unfolding u16_bytes u32_bytes u16_at u32_at starts_typed typed_of
step_25 = PacketComes (Deliver A 4) B (Some packet_4) (rested e25) Taken (FromBag A 4 packet_4 refl) (ReadAs packet_4 (rested e25) Taken (heard_unpaced (end_now s24 B) s24.draw packet_4 (rested e25) (noted Unnoted no_notes) Taken refl refl refl
    (Next (end_now s24 B) e25 (rested e25) Unnoted no_notes (noted Unnoted no_notes) (Says (tsn 500 0)) [] Taken
    (Again tags_b refl)
    (NoneLeft (rested e25) (noted Unnoted no_notes))) false (λ on. absurd (cc)) refl))

abbrev packet_5 : Packet
packet_5 = packet_of s25.b (ShutdownAck ∷ [])

abbrev s26 : World
s26 = with_packet (with_end s25 B (packet_built (end_now s25 B) 1).after) B packet_5

one_recorded : (i : ℕ) → s25.b.receiver.seen i ≡ true → i ≤ 1
unfolding u16_bytes u32_bytes u16_at u32_at starts_typed typed_of
one_recorded = bound_more (λ i. false) 1 1 (omega arith) (λ i on. absurd (cc))

step_26 : Step s25 (Build B) (Some (Sent 5 16)) s26
unfolding u16_bytes u32_bytes u16_at u32_at starts_typed typed_of
step_26 = BuildsOne B ShutdownAck [] (packet_built (end_now s25 B) 1).after (builds_are tags_b ShutdownAckSent (end_now s25 B) 1 refl one_recorded)

-- the caller is completed, and answers; closed as it is, it answers again, with T = 1
abbrev complete : Packet
complete = packet_to (end_now s26 A).configuration 9 (ShutdownComplete false)

abbrev s27 : World
s27 = with_packet (came s26 A (closed Completed (end_now s26 A))) A complete

step_27 : Step s26 (Deliver B 5) (Some (Answered 5 16)) s27
unfolding u16_bytes u32_bytes u16_at u32_at starts_typed typed_of
step_27 = PacketComes (Deliver B 5) A (Some packet_5) (closed Completed (end_now s26 A)) (Answer complete) (FromBag B 5 packet_5 refl) (ReadAs packet_5 (closed Completed (end_now s26 A)) (Answer complete) (heard_unpaced (end_now s26 A) s26.draw packet_5 (closed Completed (end_now s26 A)) no_notes (Answer complete) refl refl refl
    (EndsAnswered (end_now s26 A) (closed Completed (end_now s26 A)) no_notes ShutdownAck [] complete (AckCompletes tags_a ShutdownSent refl refl)) false (λ on. absurd (cc)) refl))

abbrev s28 : World
s28 = with_verdict (came s27 A (end_now s27 A)) A (stray_verdict (end_now s27 A) s27.draw packet_5)

step_28 : Step s27 (Deliver B 5) (Some (Answered 6 16)) s28
unfolding u16_bytes u32_bytes u16_at u32_at starts_typed typed_of
step_28 = PacketComes (Deliver B 5) A (Some packet_5) (end_now s27 A) (stray_verdict (end_now s27 A) s27.draw packet_5) (FromBag B 5 packet_5 refl) (ReadAs packet_5 (end_now s27 A) (stray_verdict (end_now s27 A) s27.draw packet_5) (Stray refl refl refl refl))

-- and so is the listener
abbrev s29 : World
s29 = came s28 B (closed Completed (end_now s28 B))

step_29 : Step s28 (Deliver A 5) (Some Acted) s29
unfolding u16_bytes u32_bytes u16_at u32_at starts_typed typed_of
step_29 = PacketComes (Deliver A 5) B (Some complete) (closed Completed (end_now s28 B)) Taken (FromBag A 5 complete refl) (ReadAs complete (closed Completed (end_now s28 B)) Taken (heard_unpaced (end_now s28 B) s28.draw complete (closed Completed (end_now s28 B)) no_notes Taken refl refl refl
    (Last (end_now s28 B) (closed Completed (end_now s28 B)) no_notes (ShutdownComplete false) [] (CompleteCompleted refl)) false (λ on. absurd (cc)) refl))

abbrev s30 : World
s30 = came s29 B (end_now s29 B)

step_30 : Step s29 (Deliver A 5) (Some (NotActed STATE)) s30
unfolding u16_bytes u32_bytes u16_at u32_at starts_typed typed_of
step_30 = PacketComes (Deliver A 5) B (Some complete) (end_now s29 B) (Dropped STATE) (FromBag A 5 complete refl) (ReadAs complete (end_now s29 B) (Dropped STATE) (Stray refl refl refl refl))

closing_runs : Run s21 closing_events closing_told s30
closing_runs =
    Then s21 s22 s30 _ _ _ _ step_22 (Then s22 s23 s30 _ _ _ _ step_23 (Then s23 s24 s30 _ _ _ _ step_24 (Then s24 s25 s30 _ _ _ _ step_25
    (Then s25 s26 s30 _ _ _ _ step_26 (Then s26 s27 s30 _ _ _ _ step_27 (Then s27 s28 s30 _ _ _ _ step_28 (Then s28 s29 s30 _ _ _ _ step_29
    (Then s29 s30 s30 _ _ _ _ step_30 (Rest s30)))))))))

pub the_script_runs : TheScriptRuns
unfolding u16_bytes u32_bytes u16_at u32_at starts_typed typed_of
the_script_runs = record {
  sealing = open_seal;
  opened = s13;
  told = s21;
  last = s30;
  opening = opening_runs;
  sending = sending_runs;
  closing = closing_runs;
  a = refl;
  b = refl;
  message = refl;
}
