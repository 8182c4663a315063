-- A stream is reset twice, with nothing sent between, and both resets are reported.
use Rattle.std.proofs.Common.{ℕ, ◌<◌, ◌^◌, true, false, List, [], ◌∷◌, Option, Some, refl, arith}
use Rattle.sctp_model.specs.numbers.Numbers.{u16_bytes, u32_bytes, u16_at, u32_at}
use Rattle.sctp_model.specs.wire.Typed.{Typed, typed_in, typed_of, starts_typed, written_typed}
use Rattle.sctp_model.specs.wire.Packet.{Packet, size_of_packet}
use Rattle.sctp_model.specs.wire.Reconfig.{Performed, reconfig_chunk, reset_item, response_item}
use Rattle.sctp_model.specs.end.EndView.{IsDraw, Established, EndView}
use Rattle.sctp_model.specs.end.Configured.{IsConfiguration}
use Rattle.sctp_model.specs.end.Opening.{opened}
use Rattle.sctp_model.specs.end.Closing.{rested}
use Rattle.sctp_model.specs.end.PeerFaults.{Unnoted}
use Rattle.sctp_model.specs.end.Reconfiguring.{parameters_heard}
use Rattle.sctp_model.specs.end.Acting.{ReconfigComes}
use Rattle.sctp_model.specs.end.Strays.{Taken}
use Rattle.sctp_model.proofs.PacedEnds.{heard_unpaced}
use Rattle.sctp_model.specs.end.Arriving.{NoneLeft, Next, ReadAs, no_notes, noted}
use Rattle.sctp_model.specs.end.Building.{packet_of}
use Rattle.sctp_model.specs.end.UserCalls.{reset_call, reset_leaves, reset_there, told_leaves}
use Rattle.sctp_model.specs.world.World.{Side, A, B, World, with_end, with_packet, end_now, came, Setup, configuration_of, start}
use Rattle.sctp_model.specs.world.Events.{Event, OpenBoth, Reset, WasReset, Build, Deliver, Outcome, Done, Sent, Acted, ResetThere}
use Rattle.sctp_model.specs.world.Steps.{Step, OpensBoth, BuildsOne, FromBag, PacketComes, ResetsOne, TellsReset, Run, Rest, Then}
use Rattle.sctp_outcomes.specs.Parted.{TwoResetsAreReported}
use Rattle.sctp_outcomes.specs.receiver.Steps.{cumulative}
use Rattle.sctp_outcomes.proofs.receiver.StepsLemmas.{cumulative_is}
use Rattle.sctp_outcomes.proofs.stories.Small.{small, of_a, of_b, tags_a, tags_b}
use Rattle.sctp_outcomes.proofs.stories.Packets.{packet_built, builds_are}
use Rattle.sctp_outcomes.proofs.stories.Acts.{bound_none}
use Rattle.sctp_outcomes.proofs.stories.Ours.{premises_of_ours}

-- ---- two endpoints that agree on resets

abbrev pub resetting : Setup
resetting = record (small false) { of_a = record (small false).of_a { reset = true }; of_b = record (small false).of_b { reset = true } }

pub configured : (x : Side) → IsConfiguration (configuration_of resetting x)
configured A = record {
  own_port = (omega arith, omega arith);
  peer_port = (omega arith, omega arith);
  limit = (omega arith, omega arith);
  fragment = (omega arith, omega arith, omega arith);
  buffer = (omega arith, omega arith);
  outbound = (omega arith, omega arith);
  inbound = (omega arith, omega arith);
}
configured B = record {
  own_port = (omega arith, omega arith);
  peer_port = (omega arith, omega arith);
  limit = (omega arith, omega arith);
  fragment = (omega arith, omega arith, omega arith);
  buffer = (omega arith, omega arith);
  outbound = (omega arith, omega arith);
  inbound = (omega arith, omega arith);
}

drawn : (n t : ℕ) → 0 < n → n < 2 ^ 32 → t < 2 ^ 32 → IsDraw (record { tag = n; tsn = t })
drawn n t some tag first = record { some = some; tag = tag; tsn = first }

abbrev pub p0 : World
p0 = record (start resetting) {
  a = opened (configuration_of resetting A) of_a of_b;
  b = opened (configuration_of resetting B) of_b of_a;
  openable = false;
}

pub opens : Step (start resetting) (OpenBoth of_a of_b) (Some Done) p0
opens = OpensBoth of_a of_b refl refl (drawn 7 100 (omega arith) (omega arith) (omega arith)) (drawn 9 200 (omega arith) (omega arith) (omega arith))

-- ---- what each call leaves

abbrev after_reset : World → World
after_reset w = with_end w A (reset_leaves (reset_call w.a 0) w.a 0)

abbrev after_report : World → World
after_report w = with_end w B (told_leaves (reset_there w.b) w.b)

-- a RE-CONFIG with these parameters arrives
abbrev heard : EndView → List Typed → EndView
heard e items = parameters_heard (cumulative e.receiver 0) e (typed_in (written_typed items))

-- A's requests: the second names its stream twice, since it would say the same otherwise; and B's responses
abbrev first : List Typed
first = reset_item 199 (record { number = 100; last = 99; streams = 0 ∷ [] }) ∷ []

abbrev second : List Typed
second = reset_item 199 (record { number = 101; last = 99; streams = 0 ∷ 0 ∷ [] }) ∷ []

abbrev response : List Typed
response = response_item 100 Performed ∷ []

-- ---- the first reset

abbrev p1 : World
p1 = after_reset p0

abbrev request : Packet
request = packet_of p1.a (reconfig_chunk first ∷ [])

abbrev p2 : World
p2 = with_packet (with_end p1 A (packet_built (end_now p1 A) 0).after) A request

built_2 : Step p1 (Build A) (Some (Sent 1 (size_of_packet (reconfig_chunk first ∷ [])))) p2
unfolding u16_bytes u32_bytes u16_at u32_at starts_typed typed_of
built_2 = BuildsOne A (reconfig_chunk first) [] (packet_built (end_now p1 A) 0).after (builds_are tags_a Established (end_now p1 A) 0 refl (bound_none p1.a.receiver refl))

abbrev p3 : World
p3 = came p2 B (rested (heard (end_now p2 B) first))

comes_3 : Step p2 (Deliver A 1) (Some Acted) p3
unfolding u16_bytes u32_bytes u16_at u32_at starts_typed typed_of
comes_3 = let e = end_now p2 B in let t = heard e first in PacketComes (Deliver A 1) B (Some request) (rested t) Taken (FromBag A 1 request refl)
    (ReadAs request (rested t) Taken (heard_unpaced e p2.draw request (rested t) (noted Unnoted no_notes) Taken refl refl refl
    (Next e t (rested t) Unnoted no_notes (noted Unnoted no_notes) (reconfig_chunk first) [] Taken
    (ReconfigComes (cumulative e.receiver 0) refl (cumulative_is e.receiver 0 (bound_none e.receiver refl)))
    (NoneLeft (rested t) (noted Unnoted no_notes))) false (λ on. absurd (cc)) refl))

abbrev answer : Packet
answer = packet_of p3.b (reconfig_chunk response ∷ [])

abbrev p4 : World
p4 = with_packet (with_end p3 B (packet_built (end_now p3 B) 0).after) B answer

built_4 : Step p3 (Build B) (Some (Sent 1 (size_of_packet (reconfig_chunk response ∷ [])))) p4
unfolding u16_bytes u32_bytes u16_at u32_at starts_typed typed_of
built_4 = BuildsOne B (reconfig_chunk response) [] (packet_built (end_now p3 B) 0).after (builds_are tags_b Established (end_now p3 B) 0 refl (bound_none p3.b.receiver refl))

abbrev p5 : World
p5 = came p4 A (rested (heard (end_now p4 A) response))

comes_5 : Step p4 (Deliver B 1) (Some Acted) p5
unfolding u16_bytes u32_bytes u16_at u32_at starts_typed typed_of
comes_5 = let e = end_now p4 A in let t = heard e response in PacketComes (Deliver B 1) A (Some answer) (rested t) Taken (FromBag B 1 answer refl)
    (ReadAs answer (rested t) Taken (heard_unpaced e p4.draw answer (rested t) (noted Unnoted no_notes) Taken refl refl refl
    (Next e t (rested t) Unnoted no_notes (noted Unnoted no_notes) (reconfig_chunk response) [] Taken
    (ReconfigComes (cumulative e.receiver 0) refl (cumulative_is e.receiver 0 (bound_none e.receiver refl)))
    (NoneLeft (rested t) (noted Unnoted no_notes))) false (λ on. absurd (cc)) refl))

abbrev p6 : World
p6 = after_report p5

told_6 : Step p5 (WasReset B) (Some (ResetThere 0 0)) p6
unfolding u16_bytes u32_bytes u16_at u32_at starts_typed typed_of
told_6 = TellsReset B

-- ---- the second one

abbrev p7 : World
p7 = after_reset p6

asked_7 : Step p6 (Reset A 0) (Some Done) p7
unfolding u16_bytes u32_bytes u16_at u32_at starts_typed typed_of
asked_7 = ResetsOne A 0

abbrev again : Packet
again = packet_of p7.a (reconfig_chunk second ∷ [])

abbrev p8 : World
p8 = with_packet (with_end p7 A (packet_built (end_now p7 A) 0).after) A again

built_8 : Step p7 (Build A) (Some (Sent 2 (size_of_packet (reconfig_chunk second ∷ [])))) p8
unfolding u16_bytes u32_bytes u16_at u32_at starts_typed typed_of
built_8 = BuildsOne A (reconfig_chunk second) [] (packet_built (end_now p7 A) 0).after (builds_are tags_a Established (end_now p7 A) 0 refl (bound_none p7.a.receiver refl))

abbrev p9 : World
p9 = came p8 B (rested (heard (end_now p8 B) second))

comes_9 : Step p8 (Deliver A 2) (Some Acted) p9
unfolding u16_bytes u32_bytes u16_at u32_at starts_typed typed_of
comes_9 = let e = end_now p8 B in let t = heard e second in PacketComes (Deliver A 2) B (Some again) (rested t) Taken (FromBag A 2 again refl)
    (ReadAs again (rested t) Taken (heard_unpaced e p8.draw again (rested t) (noted Unnoted no_notes) Taken refl refl refl
    (Next e t (rested t) Unnoted no_notes (noted Unnoted no_notes) (reconfig_chunk second) [] Taken
    (ReconfigComes (cumulative e.receiver 0) refl (cumulative_is e.receiver 0 (bound_none e.receiver refl)))
    (NoneLeft (rested t) (noted Unnoted no_notes))) false (λ on. absurd (cc)) refl))

abbrev p10 : World
p10 = after_report p9

told_10 : Step p9 (WasReset B) (Some (ResetThere 0 0)) p10
unfolding u16_bytes u32_bytes u16_at u32_at starts_typed typed_of
told_10 = TellsReset B

-- ---- the run

abbrev events : List Event
events = OpenBoth of_a of_b ∷ Reset A 0 ∷ Build A ∷ Deliver A 1 ∷ Build B ∷ Deliver B 1 ∷ WasReset B ∷ Reset A 0 ∷ Build A ∷ Deliver A 2 ∷ WasReset B ∷ []

abbrev answers : List (Option Outcome)
answers =
    Some Done ∷ Some Done ∷ Some (Sent 1 (size_of_packet (reconfig_chunk first ∷ []))) ∷ Some Acted ∷ Some (Sent 1 (size_of_packet (reconfig_chunk response ∷ []))) ∷ Some Acted
    ∷ Some (ResetThere 0 0) ∷ Some Done ∷ Some (Sent 2 (size_of_packet (reconfig_chunk second ∷ []))) ∷ Some Acted ∷ Some (ResetThere 0 0) ∷ []

the_run : Run (start resetting) events answers p10
the_run =
    Then (start resetting) p0 p10 _ _ _ _ opens (Then p0 p1 p10 _ _ _ _ (ResetsOne A 0) (Then p1 p2 p10 _ _ _ _ built_2 (Then p2 p3 p10 _ _ _ _ comes_3
    (Then p3 p4 p10 _ _ _ _ built_4 (Then p4 p5 p10 _ _ _ _ comes_5 (Then p5 p6 p10 _ _ _ _ told_6 (Then p6 p7 p10 _ _ _ _ asked_7 (Then p7 p8 p10 _ _ _ _ built_8
    (Then p8 p9 p10 _ _ _ _ comes_9 (Then p9 p10 p10 _ _ _ _ told_10 (Rest p10)))))))))))

pub two_resets_are_reported : TwoResetsAreReported
two_resets_are_reported = record {
  setup = resetting;
  configured = configured;
  events = events;
  answers = answers;
  last = p10;
  run = the_run;
  premises = premises_of_ours resetting.sealing events refl;
  asked = refl;
  reported = refl;
}
