-- The script's message, event by event: each packet arrives twice.
use Rattle.std.proofs.Common.{◌≡◌, ℕ, ◌≤◌, true, false, [], ◌∷◌, Some, refl, arith}
use Rattle.sctp_model.specs.numbers.Numbers.{u16_bytes, u32_bytes, u16_at, u32_at}
use Rattle.sctp_model.specs.wire.Typed.{starts_typed, typed_of}
use Rattle.sctp_model.specs.messages.Format.{Plain}
use Rattle.sctp_model.specs.wire.Chunk.{PieceMeaning, SackMeaning, Data, Sack}
use Rattle.sctp_model.specs.wire.Packet.{Packet}
use Rattle.sctp_model.specs.receiver.SackMade.{first_taken}
use Rattle.sctp_model.specs.end.EndView.{Established, EndView}
use Rattle.sctp_model.specs.end.Closing.{rested}
use Rattle.sctp_model.specs.end.Acting.{SackCounts, sack_heard}
use Rattle.sctp_model.specs.end.Strays.{Taken}
use Rattle.sctp_model.specs.end.PeerFaults.{Unnoted}
use Rattle.sctp_model.proofs.PacedEnds.{heard_unpaced}
use Rattle.sctp_model.specs.end.Arriving.{NoneLeft, Next, ReadAs, no_notes, noted, acknowledges}
use Rattle.sctp_model.specs.end.Building.{packet_of}
use Rattle.sctp_model.specs.end.UserCalls.{Ticket, send_answer, send_leaves}
use Rattle.sctp_model.specs.world.World.{A, B, World, with_end, with_packet, with_log, end_now, came}
use Rattle.sctp_model.specs.world.Events.{Send, Build, Deliver, Take, Sent, Acted, Told, Message}
use Rattle.sctp_model.specs.world.Steps.{accepted, Step, BuildsOne, FromBag, PacketComes, Sends, TakesOne, Run, Rest, Then}
use Rattle.sctp_outcomes.specs.Script.{greeting, arrived, sending_events, sending_told}
use Rattle.sctp_outcomes.proofs.stories.Packets.{packet_built, builds_are}
use Rattle.sctp_outcomes.proofs.stories.Acts.{bound_none, bound_more, after_data, data_acts, data_note}
use Rattle.sctp_outcomes.proofs.stories.ScriptOpening.{tags_a, tags_b, s13}

abbrev s14 : World
s14 = with_log (with_end s13 A (send_leaves (send_answer s13.a greeting) s13.a greeting)) A (accepted s13 A (send_answer s13.a greeting) greeting)

step_14 : Step s13 (Send A greeting) (Some (Told (Ticket 1))) s14
unfolding u16_bytes u32_bytes u16_at u32_at starts_typed typed_of
step_14 = Sends A greeting

-- one fragment
abbrev piece : PieceMeaning
piece = record { immediate = false; unordered = false; begin = true; end = true; tsn = 100; stream = 0; number = 0; word = 0; bytes = 72 ∷ 105 ∷ [] }

abbrev packet_3 : Packet
packet_3 = packet_of s14.a (Data piece ∷ [])

abbrev s15 : World
s15 = with_packet (with_end s14 A (packet_built (end_now s14 A) 0).after) A packet_3

step_15 : Step s14 (Build A) (Some (Sent 3 32)) s15
unfolding u16_bytes u32_bytes u16_at u32_at starts_typed typed_of
step_15 = BuildsOne A (Data piece) [] (packet_built (end_now s14 A) 0).after (builds_are tags_a Established (end_now s14 A) 0 refl (bound_none s14.a.receiver refl))

-- it is taken, and then noted as a duplicate
abbrev e16 : EndView
e16 = after_data (end_now s15 B) 0 piece

abbrev s16 : World
s16 = came s15 B (acknowledges Established (rested e16))

step_16 : Step s15 (Deliver A 3) (Some Acted) s16
unfolding u16_bytes u32_bytes u16_at u32_at starts_typed typed_of
step_16 = PacketComes (Deliver A 3) B (Some packet_3) (acknowledges Established (rested e16)) Taken (FromBag A 3 packet_3 refl) (ReadAs packet_3 (acknowledges Established (rested e16)) Taken (heard_unpaced (end_now s15 B) s15.draw packet_3 (rested e16) (noted (data_note (end_now s15 B) 0 piece) no_notes) Taken refl refl refl
    (Next (end_now s15 B) e16 (rested e16) (data_note (end_now s15 B) 0 piece) no_notes (noted (data_note (end_now s15 B) 0 piece) no_notes) (Data piece) [] Taken
    (data_acts Plain (end_now s15 B) tags_b Established 0 piece (bound_none s15.b.receiver refl) refl refl (omega arith) refl refl)
    (NoneLeft (rested e16) (noted (data_note (end_now s15 B) 0 piece) no_notes))) false (λ on. absurd (cc)) refl))

one_recorded : (i : ℕ) → s16.b.receiver.seen i ≡ true → i ≤ 1
unfolding u16_bytes u32_bytes u16_at u32_at starts_typed typed_of
one_recorded = bound_more (λ i. false) 1 1 (omega arith) (λ i on. absurd (cc))

abbrev e17 : EndView
e17 = after_data (end_now s16 B) 1 piece

abbrev s17 : World
s17 = came s16 B (acknowledges Established (rested e17))

step_17 : Step s16 (Deliver A 3) (Some Acted) s17
unfolding u16_bytes u32_bytes u16_at u32_at starts_typed typed_of
step_17 = PacketComes (Deliver A 3) B (Some packet_3) (acknowledges Established (rested e17)) Taken (FromBag A 3 packet_3 refl) (ReadAs packet_3 (acknowledges Established (rested e17)) Taken (heard_unpaced (end_now s16 B) s16.draw packet_3 (rested e17) (noted (data_note (end_now s16 B) 1 piece) no_notes) Taken refl refl refl
    (Next (end_now s16 B) e17 (rested e17) (data_note (end_now s16 B) 1 piece) no_notes (noted (data_note (end_now s16 B) 1 piece) no_notes) (Data piece) [] Taken
    (data_acts Plain (end_now s16 B) tags_b Established 1 piece one_recorded refl refl (omega arith) refl refl)
    (NoneLeft (rested e17) (noted (data_note (end_now s16 B) 1 piece) no_notes))) false (λ on. absurd (cc)) refl))

-- the SACK names the duplicate; the two bytes wait, and count against the buffer
abbrev sack : SackMeaning
sack = record { cumulative = 100; rwnd = 65534; blocks = []; duplicates = 100 ∷ [] }

abbrev packet_4 : Packet
packet_4 = packet_of s17.b (Sack sack ∷ [])

abbrev s18 : World
s18 = with_packet (with_end s17 B (packet_built (end_now s17 B) 1).after) B packet_4

still_one : (i : ℕ) → s17.b.receiver.seen i ≡ true → i ≤ 1
unfolding u16_bytes u32_bytes u16_at u32_at starts_typed typed_of
still_one = bound_more (λ i. false) 1 1 (omega arith) (λ i on. absurd (cc))

step_18 : Step s17 (Build B) (Some (Sent 4 32)) s18
unfolding u16_bytes u32_bytes u16_at u32_at starts_typed typed_of
step_18 = BuildsOne B (Sack sack) [] (packet_built (end_now s17 B) 1).after (builds_are tags_b Established (end_now s17 B) 1 refl still_one)

-- it counts, twice
abbrev e19 : EndView
e19 = sack_heard (end_now s18 A) sack

abbrev s19 : World
s19 = came s18 A (rested e19)

step_19 : Step s18 (Deliver B 4) (Some Acted) s19
unfolding u16_bytes u32_bytes u16_at u32_at starts_typed typed_of
step_19 = PacketComes (Deliver B 4) A (Some packet_4) (rested e19) Taken (FromBag B 4 packet_4 refl) (ReadAs packet_4 (rested e19) Taken (heard_unpaced (end_now s18 A) s18.draw packet_4 (rested e19) (noted Unnoted no_notes) Taken refl refl refl
    (Next (end_now s18 A) e19 (rested e19) Unnoted no_notes (noted Unnoted no_notes) (Sack sack) [] Taken
    (SackCounts refl refl)
    (NoneLeft (rested e19) (noted Unnoted no_notes))) false (λ on. absurd (cc)) refl))

abbrev e20 : EndView
e20 = sack_heard (end_now s19 A) sack

abbrev s20 : World
s20 = came s19 A (rested e20)

step_20 : Step s19 (Deliver B 4) (Some Acted) s20
unfolding u16_bytes u32_bytes u16_at u32_at starts_typed typed_of
step_20 = PacketComes (Deliver B 4) A (Some packet_4) (rested e20) Taken (FromBag B 4 packet_4 refl) (ReadAs packet_4 (rested e20) Taken (heard_unpaced (end_now s19 A) s19.draw packet_4 (rested e20) (noted Unnoted no_notes) Taken refl refl refl
    (Next (end_now s19 A) e20 (rested e20) Unnoted no_notes (noted Unnoted no_notes) (Sack sack) [] Taken
    (SackCounts refl refl)
    (NoneLeft (rested e20) (noted Unnoted no_notes))) false (λ on. absurd (cc)) refl))

-- B's user takes the message
abbrev e21 : EndView
e21 = record s20.b { receiver = first_taken s20.b.receiver 0 arrived [] }

abbrev pub s21 : World
s21 = with_end s20 B e21

step_21 : Step s20 (Take B 0) (Some (Message arrived)) s21
unfolding u16_bytes u32_bytes u16_at u32_at starts_typed typed_of
step_21 = TakesOne B 0 (Some arrived) e21 (record { receiver = first_taken s20.b.receiver 0 arrived []; takes = ([], refl, refl); leaves = refl })

pub sending_runs : Run s13 sending_events sending_told s21
sending_runs =
    Then s13 s14 s21 _ _ _ _ step_14 (Then s14 s15 s21 _ _ _ _ step_15 (Then s15 s16 s21 _ _ _ _ step_16 (Then s16 s17 s21 _ _ _ _ step_17
    (Then s17 s18 s21 _ _ _ _ step_18 (Then s18 s19 s21 _ _ _ _ step_19 (Then s19 s20 s21 _ _ _ _ step_20 (Then s20 s21 s21 _ _ _ _ step_21 (Rest s21))))))))
