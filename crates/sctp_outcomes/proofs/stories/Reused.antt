-- After two messages both halves of the stream are reset, and a message follows, as of the stream's next channel.
use Rattle.std.proofs.Common.{◌==◌, ◌&&◌, if◌then◌else◌, true, false, List, [], ◌∷◌, length, Some, None, refl, arith}
use Rattle.sctp_model.specs.numbers.Lists.{at}
use Rattle.sctp_model.specs.numbers.Numbers.{u16_bytes, u32_bytes, u16_at, u32_at}
use Rattle.sctp_model.specs.wire.Typed.{Typed, typed_of, starts_typed}
use Rattle.sctp_model.specs.wire.Chunk.{Data}
use Rattle.sctp_model.specs.wire.Packet.{Packet, size_of_packet}
use Rattle.sctp_model.specs.wire.Reconfig.{Performed, reconfig_chunk, reset_item, response_item}
use Rattle.sctp_model.specs.messages.Format.{Plain}
use Rattle.sctp_model.specs.sender.Outgoing.{lists}
use Rattle.sctp_model.specs.receiver.Incoming.{Incoming, no_incoming}
use Rattle.sctp_model.specs.receiver.ReceiverView.{ReceiverView, handed}
use Rattle.sctp_model.specs.receiver.ResetTaken.{count_on}
use Rattle.sctp_model.specs.receiver.SackMade.{first_taken}
use Rattle.sctp_model.specs.end.EndView.{Tags, Established, Open, Due, nothing_due, EndView}
use Rattle.sctp_model.specs.end.Closing.{rested}
use Rattle.sctp_model.specs.end.PeerFaults.{Unnoted}
use Rattle.sctp_model.specs.end.Acting.{ReconfigComes}
use Rattle.sctp_model.specs.end.Strays.{Taken}
use Rattle.sctp_model.proofs.PacedEnds.{heard_unpaced}
use Rattle.sctp_model.specs.end.Arriving.{NoneLeft, Next, ReadAs, no_notes, noted, acknowledges}
use Rattle.sctp_model.specs.end.Building.{packet_of}
use Rattle.sctp_model.specs.end.UserCalls.{Ticket, reset_call, reset_leaves, reset_there, told_leaves}
use Rattle.sctp_model.specs.world.World.{A, B, World, with_end, with_packet, end_now, came}
use Rattle.sctp_model.specs.world.Events.{Send, Take, Reset, WasReset, Build, Deliver, Done, Told, Message, Sent, Acted, ResetThere}
use Rattle.sctp_model.specs.world.Steps.{Step, BuildsOne, FromBag, PacketComes, Sends, TakesOne, ResetsOne, TellsReset}
use Rattle.sctp_outcomes.specs.receiver.Steps.{cumulative}
use Rattle.sctp_outcomes.proofs.receiver.StepsLemmas.{cumulative_is}
use Rattle.sctp_outcomes.proofs.stories.Small.{tags_a, tags_b, after_send}
use Rattle.sctp_outcomes.proofs.stories.Packets.{packet_built, builds_are}
use Rattle.sctp_outcomes.proofs.stories.Acts.{bound_none, after_data, data_acts, data_note}
use Rattle.sctp_outcomes.proofs.stories.TwoMessages.{content, piece, taken, after_take, heard, two_seen, r0, r10}

-- ---- the reset of both halves

abbrev pub request : List Typed
request = reset_item 199 (record { number = 100; last = 101; streams = 0 ∷ [] }) ∷ []

abbrev pub response : List Typed
response = response_item 100 Performed ∷ []

abbrev pub request_back : List Typed
request_back = reset_item 100 (record { number = 200; last = 199; streams = 0 ∷ [] }) ∷ []

abbrev pub response_back : List Typed
response_back = response_item 200 Performed ∷ []

-- ---- what each end is then

-- an endpoint in ESTABLISHED with this receiver, of which this is due
abbrev with_parts : EndView → Tags → Due → ReceiverView → EndView → EndView
with_parts first t d r e = record e { configuration = first.configuration; phase = Open t Established; moment = 0; due = d; delayed = None; pace = None; terms = first.terms; receiver = r }

-- B's receiver, by what it knows of resets, once both messages were taken
abbrev receiver : Incoming → ReceiverView
receiver t = record {
  seen = at (at (λ i. false) 1 true) 2 true;
  jump = 0;
  kept = [];
  next = at (at (λ s. 0) 0 1) 0 2;
  skip = λ l. 0;
  taken = at (at (λ s. []) 0 (taken 1 0 97 ∷ [])) 0 (taken 1 0 97 ∷ taken 2 1 98 ∷ []);
  waiting = at (at (at (at (λ s. []) 0 (taken 1 0 97 ∷ [])) 0 []) 0 (taken 2 1 98 ∷ [])) 0 [];
  duplicates = [];
  resets = t;
  initial = 100;
  streams = 1;
  buffer = 65536;
  reserve = 0;
}

-- and A's
abbrev receiver_back : Incoming → ReceiverView
receiver_back t = record r0.a.receiver { resets = t }

-- a first request for stream 0 was performed by a receiver
abbrev performed : ReceiverView → (answers : List Typed) → Incoming
performed r xs = record {
  base = λ l. if lists (0 ∷ []) l.stream then count_on r l.stream l.kind else 0;
  taken = 1;
  result = Performed;
  waited = None;
  answers = xs;
  told = λ s. if lists (0 ∷ []) s && true then Some (length (handed r s)) else None;
}

-- and was reported
abbrev reported : Incoming → Incoming
reported t = record t { told = λ s. if s == 0 then None else t.told s }

-- what B knows: the request, which is to be reported; it was; and the response was sent
abbrev in_13 : Incoming
in_13 = performed (receiver no_incoming) response

abbrev in_16 : Incoming
in_16 = record (reported in_13) { answers = [] }

-- what A does
abbrev in_17 : Incoming
in_17 = performed (receiver_back no_incoming) response_back

-- ---- each step

abbrev pub r11 : World
r11 = with_end r10 A (reset_leaves (reset_call r10.a 0) r10.a 0)

pub step_11 : Step r10 (Reset A 0) (Some Done) r11
unfolding u16_bytes u32_bytes u16_at u32_at starts_typed typed_of
step_11 = ResetsOne A 0

abbrev packet_12 : Packet
packet_12 = packet_of r11.a (reconfig_chunk request ∷ [])

abbrev pub r12 : World
r12 = with_packet (with_end r11 A (packet_built (end_now r11 A) 0).after) A packet_12

pub step_12 : Step r11 (Build A) (Some (Sent 3 (size_of_packet (reconfig_chunk request ∷ [])))) r12
unfolding u16_bytes u32_bytes u16_at u32_at starts_typed typed_of
step_12 = BuildsOne A (reconfig_chunk request) ([]) (packet_built (end_now r11 A) 0).after (builds_are tags_a Established (end_now r11 A) 0 refl (bound_none r11.a.receiver refl))

abbrev pub r13 : World
r13 = came r12 B (with_parts r0.b tags_b nothing_due (receiver in_13) (rested (heard (end_now r12 B) 2 request)))

pub step_13 : Step r12 (Deliver A 3) (Some Acted) r13
unfolding u16_bytes u32_bytes u16_at u32_at starts_typed typed_of
step_13 = let e = end_now r12 B in let t = heard e 2 request in PacketComes (Deliver A 3) B (Some packet_12) (rested t) Taken (FromBag A 3 packet_12 refl)
    (ReadAs packet_12 (rested t) Taken (heard_unpaced e r12.draw packet_12 (rested t) (noted Unnoted no_notes) Taken refl refl refl
    (Next e t (rested t) Unnoted no_notes (noted Unnoted no_notes) (reconfig_chunk request) [] Taken
    (ReconfigComes (cumulative e.receiver 2) refl (cumulative_is e.receiver 2 two_seen))
    (NoneLeft (rested t) (noted Unnoted no_notes))) false (λ on. absurd (cc)) refl))

abbrev pub r14 : World
r14 = with_end r13 B (told_leaves (reset_there r13.b) r13.b)

pub step_14 : Step r13 (WasReset B) (Some (ResetThere 0 0)) r14
unfolding u16_bytes u32_bytes u16_at u32_at starts_typed typed_of
step_14 = TellsReset B

abbrev pub r15 : World
r15 = with_end r14 B (reset_leaves (reset_call r14.b 0) r14.b 0)

pub step_15 : Step r14 (Reset B 0) (Some Done) r15
unfolding u16_bytes u32_bytes u16_at u32_at starts_typed typed_of
step_15 = ResetsOne B 0

abbrev packet_16 : Packet
packet_16 = packet_of r15.b (reconfig_chunk response ∷ reconfig_chunk request_back ∷ [])

abbrev pub r16 : World
r16 = with_packet (with_end r15 B (with_parts r0.b tags_b nothing_due (receiver in_16) (packet_built (end_now r15 B) 2).after)) B packet_16

pub step_16 : Step r15 (Build B) (Some (Sent 2 (size_of_packet (reconfig_chunk response ∷ reconfig_chunk request_back ∷ [])))) r16
unfolding u16_bytes u32_bytes u16_at u32_at starts_typed typed_of
step_16 = BuildsOne B (reconfig_chunk response) (reconfig_chunk request_back ∷ []) (packet_built (end_now r15 B) 2).after (builds_are tags_b Established (end_now r15 B) 2 refl two_seen)

abbrev pub r17 : World
r17 = came r16 A (with_parts r0.a tags_a nothing_due (receiver_back in_17) (rested (heard (rested (heard (end_now r16 A) 0 response)) 0 request_back)))

pub step_17 : Step r16 (Deliver B 2) (Some Acted) r17
unfolding u16_bytes u32_bytes u16_at u32_at starts_typed typed_of
step_17 = let e = end_now r16 A in let m = heard e 0 response in let t = heard (rested m) 0 request_back in
    PacketComes (Deliver B 2) A (Some packet_16) (rested t) Taken (FromBag B 2 packet_16 refl)
    (ReadAs packet_16 (rested t) Taken (heard_unpaced e r16.draw packet_16 (rested t) (noted Unnoted (noted Unnoted no_notes)) Taken refl refl refl
    (Next e m (rested t) Unnoted no_notes (noted Unnoted (noted Unnoted no_notes)) (reconfig_chunk response) (reconfig_chunk request_back ∷ []) Taken
    (ReconfigComes (cumulative e.receiver 0) refl (cumulative_is e.receiver 0 (bound_none r16.a.receiver refl)))
    (Next (rested m) t (rested t) Unnoted (noted Unnoted no_notes) (noted Unnoted (noted Unnoted no_notes)) (reconfig_chunk request_back) [] Taken
    (ReconfigComes (cumulative (rested m).receiver 0) refl (cumulative_is (rested m).receiver 0 (bound_none (rested m).receiver refl)))
    (NoneLeft (rested t) (noted Unnoted (noted Unnoted no_notes))))) false (λ on. absurd (cc)) refl))

abbrev pub r18 : World
r18 = with_end r17 A (told_leaves (reset_there r17.a) r17.a)

pub step_18 : Step r17 (WasReset A) (Some (ResetThere 0 0)) r18
unfolding u16_bytes u32_bytes u16_at u32_at starts_typed typed_of
step_18 = TellsReset A

abbrev packet_19 : Packet
packet_19 = packet_of r18.a (reconfig_chunk response_back ∷ [])

abbrev pub r19 : World
r19 = with_packet (with_end r18 A (packet_built (end_now r18 A) 0).after) A packet_19

pub step_19 : Step r18 (Build A) (Some (Sent 4 (size_of_packet (reconfig_chunk response_back ∷ [])))) r19
unfolding u16_bytes u32_bytes u16_at u32_at starts_typed typed_of
step_19 = BuildsOne A (reconfig_chunk response_back) ([]) (packet_built (end_now r18 A) 0).after (builds_are tags_a Established (end_now r18 A) 0 refl (bound_none r18.a.receiver refl))

abbrev pub r20 : World
r20 = came r19 B (with_parts r0.b tags_b nothing_due (receiver in_16) (rested (heard (end_now r19 B) 2 response_back)))

pub step_20 : Step r19 (Deliver A 4) (Some Acted) r20
unfolding u16_bytes u32_bytes u16_at u32_at starts_typed typed_of
step_20 = let e = end_now r19 B in let t = heard e 2 response_back in PacketComes (Deliver A 4) B (Some packet_19) (rested t) Taken (FromBag A 4 packet_19 refl)
    (ReadAs packet_19 (rested t) Taken (heard_unpaced e r19.draw packet_19 (rested t) (noted Unnoted no_notes) Taken refl refl refl
    (Next e t (rested t) Unnoted no_notes (noted Unnoted no_notes) (reconfig_chunk response_back) [] Taken
    (ReconfigComes (cumulative e.receiver 2) refl (cumulative_is e.receiver 2 two_seen))
    (NoneLeft (rested t) (noted Unnoted no_notes))) false (λ on. absurd (cc)) refl))

-- ---- a message of the next channel

abbrev pub r21 : World
r21 = after_send r20 (content 99)

pub step_21 : Step r20 (Send A (content 99)) (Some (Told (Ticket 3))) r21
unfolding u16_bytes u32_bytes u16_at u32_at starts_typed typed_of
step_21 = Sends A (content 99)

abbrev packet_22 : Packet
packet_22 = packet_of r21.a (Data (piece 102 0 99) ∷ [])

abbrev pub r22 : World
r22 = with_packet (with_end r21 A (packet_built (end_now r21 A) 0).after) A packet_22

pub step_22 : Step r21 (Build A) (Some (Sent 5 (size_of_packet (Data (piece 102 0 99) ∷ [])))) r22
unfolding u16_bytes u32_bytes u16_at u32_at starts_typed typed_of
step_22 = BuildsOne A (Data (piece 102 0 99)) ([]) (packet_built (end_now r21 A) 0).after (builds_are tags_a Established (end_now r21 A) 0 refl (bound_none r21.a.receiver refl))

abbrev e23 : EndView
e23 = after_data (end_now r22 B) 2 (piece 102 0 99)

abbrev pub r23 : World
r23 = came r22 B (acknowledges Established (rested e23))

pub step_23 : Step r22 (Deliver A 5) (Some Acted) r23
unfolding u16_bytes u32_bytes u16_at u32_at starts_typed typed_of
step_23 = PacketComes (Deliver A 5) B (Some packet_22) (acknowledges Established (rested e23)) Taken (FromBag A 5 packet_22 refl)
    (ReadAs packet_22 (acknowledges Established (rested e23)) Taken (heard_unpaced (end_now r22 B) r22.draw packet_22 (rested e23) (noted (data_note (end_now r22 B) 2 (piece 102 0 99)) no_notes) Taken refl refl refl
    (Next (end_now r22 B) e23 (rested e23) (data_note (end_now r22 B) 2 (piece 102 0 99)) no_notes (noted (data_note (end_now r22 B) 2 (piece 102 0 99)) no_notes) (Data (piece 102 0 99)) [] Taken
    (data_acts Plain (end_now r22 B) tags_b Established 2 (piece 102 0 99) two_seen refl refl (omega arith) refl refl)
    (NoneLeft (rested e23) (noted (data_note (end_now r22 B) 2 (piece 102 0 99)) no_notes))) false (λ on. absurd (cc)) refl))

abbrev pub r24 : World
r24 = after_take r23 (taken 3 2 99)

pub step_24 : Step r23 (Take B 0) (Some (Message (taken 3 2 99))) r24
unfolding u16_bytes u32_bytes u16_at u32_at starts_typed typed_of
step_24 = TakesOne B 0 (Some (taken 3 2 99)) _ (record { receiver = first_taken r23.b.receiver 0 (taken 3 2 99) []; takes = ([], refl, refl); leaves = refl })
