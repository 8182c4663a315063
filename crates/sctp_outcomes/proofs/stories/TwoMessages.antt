-- Two messages of a stream are sent, taken and acknowledged, of endpoints that agree on resets.
use Rattle.std.proofs.Common.{◌≡◌, ℕ, ◌≤◌, true, false, List, [], ◌∷◌, Some, None, refl, arith}
use Rattle.sctp_model.specs.numbers.Lists.{at}
use Rattle.sctp_model.specs.numbers.Numbers.{u16_bytes, u32_bytes, u16_at, u32_at}
use Rattle.sctp_model.specs.wire.Typed.{Typed, typed_in, typed_of, starts_typed, written_typed}
use Rattle.sctp_model.specs.wire.Chunk.{PieceMeaning, SackMeaning, Data, Sack}
use Rattle.sctp_model.specs.wire.Packet.{Packet, size_of_packet}
use Rattle.sctp_model.specs.messages.Format.{Plain, ordered_lane}
use Rattle.sctp_model.specs.world.Calls.{Call}
use Rattle.sctp_model.specs.receiver.ReceiverView.{Handed}
use Rattle.sctp_model.specs.receiver.SackMade.{first_taken}
use Rattle.sctp_model.specs.end.EndView.{Established, EndView}
use Rattle.sctp_model.specs.end.Closing.{rested}
use Rattle.sctp_model.specs.end.PeerFaults.{Unnoted}
use Rattle.sctp_model.specs.end.Reconfiguring.{parameters_heard}
use Rattle.sctp_model.specs.end.Acting.{SackCounts, sack_heard}
use Rattle.sctp_model.specs.end.Strays.{Taken}
use Rattle.sctp_model.proofs.PacedEnds.{heard_unpaced}
use Rattle.sctp_model.specs.end.Arriving.{NoneLeft, Next, ReadAs, no_notes, noted, acknowledges}
use Rattle.sctp_model.specs.end.Building.{packet_of}
use Rattle.sctp_model.specs.end.UserCalls.{Ticket}
use Rattle.sctp_model.specs.world.World.{A, B, World, with_end, with_packet, end_now, came}
use Rattle.sctp_model.specs.world.Events.{Send, Take, Build, Deliver, Told, Message, Sent, Acted}
use Rattle.sctp_model.specs.world.Steps.{Step, BuildsOne, FromBag, PacketComes, Sends, TakesOne}
use Rattle.sctp_outcomes.specs.receiver.Steps.{cumulative}
use Rattle.sctp_outcomes.proofs.stories.Small.{tags_a, tags_b, after_send}
use Rattle.sctp_outcomes.proofs.stories.Packets.{packet_built, builds_are}
use Rattle.sctp_outcomes.proofs.stories.Acts.{bound_none, bound_more, after_data, data_acts, data_note}
use Rattle.sctp_outcomes.proofs.stories.TwoResets.{p0}

-- ---- what each call leaves

-- a content of one byte, as text, on an ordered channel of stream 0
abbrev pub content : (byte : ℕ) → Call
content b = record { lane = ordered_lane 0; payload = 51; bytes = b ∷ []; until = None; limit = None }

abbrev pub piece : (tsn number byte : ℕ) → PieceMeaning
piece t k b = record { immediate = false; unordered = false; begin = true; end = true; tsn = t; stream = 0; number = k; word = 51; bytes = b ∷ [] }

abbrev pub taken : (first number byte : ℕ) → Handed
taken i k b = record { first = i; lane = ordered_lane 0; number = Some k; payload = 51; bytes = b ∷ [] }

abbrev pub after_take : World → Handed → World
after_take w h = with_end w B (record w.b { receiver = first_taken w.b.receiver 0 h [] })

-- a RE-CONFIG with these parameters arrives; no index past the bound was recorded
abbrev pub heard : EndView → (bound : ℕ) → List Typed → EndView
heard e bound items = parameters_heard (cumulative e.receiver bound) e (typed_in (written_typed items))

one_seen : (i : ℕ) → at (λ k. false) 1 true i ≡ true → i ≤ 1
one_seen = bound_more (λ i. false) 1 1 (omega arith) (λ i on. absurd (cc))

pub two_seen : (i : ℕ) → at (at (λ k. false) 1 true) 2 true i ≡ true → i ≤ 2
two_seen = bound_more (at (λ i. false) 1 true) 2 2 (omega arith) (λ i on. let le = one_seen i on in omega (arith, le))

-- ---- two messages

abbrev pub r0 : World
r0 = p0

abbrev pub r1 : World
r1 = after_send r0 (content 97)

pub step_1 : Step r0 (Send A (content 97)) (Some (Told (Ticket 1))) r1
unfolding u16_bytes u32_bytes u16_at u32_at starts_typed typed_of
step_1 = Sends A (content 97)

abbrev packet_2 : Packet
packet_2 = packet_of r1.a (Data (piece 100 0 97) ∷ [])

abbrev pub r2 : World
r2 = with_packet (with_end r1 A (packet_built (end_now r1 A) 0).after) A packet_2

pub step_2 : Step r1 (Build A) (Some (Sent 1 (size_of_packet (Data (piece 100 0 97) ∷ [])))) r2
unfolding u16_bytes u32_bytes u16_at u32_at starts_typed typed_of
step_2 = BuildsOne A (Data (piece 100 0 97)) ([]) (packet_built (end_now r1 A) 0).after (builds_are tags_a Established (end_now r1 A) 0 refl (bound_none r1.a.receiver refl))

abbrev e3 : EndView
e3 = after_data (end_now r2 B) 0 (piece 100 0 97)

abbrev pub r3 : World
r3 = came r2 B (acknowledges Established (rested e3))

pub step_3 : Step r2 (Deliver A 1) (Some Acted) r3
unfolding u16_bytes u32_bytes u16_at u32_at starts_typed typed_of
step_3 = PacketComes (Deliver A 1) B (Some packet_2) (acknowledges Established (rested e3)) Taken (FromBag A 1 packet_2 refl)
    (ReadAs packet_2 (acknowledges Established (rested e3)) Taken (heard_unpaced (end_now r2 B) r2.draw packet_2 (rested e3) (noted (data_note (end_now r2 B) 0 (piece 100 0 97)) no_notes) Taken refl refl refl
    (Next (end_now r2 B) e3 (rested e3) (data_note (end_now r2 B) 0 (piece 100 0 97)) no_notes (noted (data_note (end_now r2 B) 0 (piece 100 0 97)) no_notes) (Data (piece 100 0 97)) [] Taken
    (data_acts Plain (end_now r2 B) tags_b Established 0 (piece 100 0 97) (bound_none r2.b.receiver refl) refl refl (omega arith) refl refl)
    (NoneLeft (rested e3) (noted (data_note (end_now r2 B) 0 (piece 100 0 97)) no_notes))) false (λ on. absurd (cc)) refl))

abbrev pub r4 : World
r4 = after_take r3 (taken 1 0 97)

pub step_4 : Step r3 (Take B 0) (Some (Message (taken 1 0 97))) r4
unfolding u16_bytes u32_bytes u16_at u32_at starts_typed typed_of
step_4 = TakesOne B 0 (Some (taken 1 0 97)) _ (record { receiver = first_taken r3.b.receiver 0 (taken 1 0 97) []; takes = ([], refl, refl); leaves = refl })

abbrev pub r5 : World
r5 = after_send r4 (content 98)

pub step_5 : Step r4 (Send A (content 98)) (Some (Told (Ticket 2))) r5
unfolding u16_bytes u32_bytes u16_at u32_at starts_typed typed_of
step_5 = Sends A (content 98)

abbrev packet_6 : Packet
packet_6 = packet_of r5.a (Data (piece 101 1 98) ∷ [])

abbrev pub r6 : World
r6 = with_packet (with_end r5 A (packet_built (end_now r5 A) 0).after) A packet_6

pub step_6 : Step r5 (Build A) (Some (Sent 2 (size_of_packet (Data (piece 101 1 98) ∷ [])))) r6
unfolding u16_bytes u32_bytes u16_at u32_at starts_typed typed_of
step_6 = BuildsOne A (Data (piece 101 1 98)) ([]) (packet_built (end_now r5 A) 0).after (builds_are tags_a Established (end_now r5 A) 0 refl (bound_none r5.a.receiver refl))

abbrev e7 : EndView
e7 = after_data (end_now r6 B) 1 (piece 101 1 98)

abbrev pub r7 : World
r7 = came r6 B (acknowledges Established (rested e7))

pub step_7 : Step r6 (Deliver A 2) (Some Acted) r7
unfolding u16_bytes u32_bytes u16_at u32_at starts_typed typed_of
step_7 = PacketComes (Deliver A 2) B (Some packet_6) (acknowledges Established (rested e7)) Taken (FromBag A 2 packet_6 refl)
    (ReadAs packet_6 (acknowledges Established (rested e7)) Taken (heard_unpaced (end_now r6 B) r6.draw packet_6 (rested e7) (noted (data_note (end_now r6 B) 1 (piece 101 1 98)) no_notes) Taken refl refl refl
    (Next (end_now r6 B) e7 (rested e7) (data_note (end_now r6 B) 1 (piece 101 1 98)) no_notes (noted (data_note (end_now r6 B) 1 (piece 101 1 98)) no_notes) (Data (piece 101 1 98)) [] Taken
    (data_acts Plain (end_now r6 B) tags_b Established 1 (piece 101 1 98) one_seen refl refl (omega arith) refl refl)
    (NoneLeft (rested e7) (noted (data_note (end_now r6 B) 1 (piece 101 1 98)) no_notes))) false (λ on. absurd (cc)) refl))

abbrev pub r8 : World
r8 = after_take r7 (taken 2 1 98)

pub step_8 : Step r7 (Take B 0) (Some (Message (taken 2 1 98))) r8
unfolding u16_bytes u32_bytes u16_at u32_at starts_typed typed_of
step_8 = TakesOne B 0 (Some (taken 2 1 98)) _ (record { receiver = first_taken r7.b.receiver 0 (taken 2 1 98) []; takes = ([], refl, refl); leaves = refl })

abbrev pub sack : SackMeaning
sack = record { cumulative = 101; rwnd = 65536; blocks = []; duplicates = [] }

abbrev packet_9 : Packet
packet_9 = packet_of r8.b (Sack sack ∷ [])

abbrev pub r9 : World
r9 = with_packet (with_end r8 B (packet_built (end_now r8 B) 2).after) B packet_9

pub step_9 : Step r8 (Build B) (Some (Sent 1 (size_of_packet (Sack sack ∷ [])))) r9
unfolding u16_bytes u32_bytes u16_at u32_at starts_typed typed_of
step_9 = BuildsOne B (Sack sack) ([]) (packet_built (end_now r8 B) 2).after (builds_are tags_b Established (end_now r8 B) 2 refl two_seen)

abbrev pub r10 : World
r10 = came r9 A (rested (sack_heard (end_now r9 A) sack))

pub step_10 : Step r9 (Deliver B 1) (Some Acted) r10
unfolding u16_bytes u32_bytes u16_at u32_at starts_typed typed_of
step_10 = let t = sack_heard (end_now r9 A) sack in PacketComes (Deliver B 1) A (Some packet_9) (rested t) Taken (FromBag B 1 packet_9 refl)
    (ReadAs packet_9 (rested t) Taken (heard_unpaced (end_now r9 A) r9.draw packet_9 (rested t) (noted Unnoted no_notes) Taken refl refl refl
    (Next (end_now r9 A) t (rested t) Unnoted no_notes (noted Unnoted no_notes) (Sack sack) [] Taken (SackCounts refl refl) (NoneLeft (rested t) (noted Unnoted no_notes))) false (λ on. absurd (cc)) refl))
