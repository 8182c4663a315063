-- FILL, computed: what each chunk says under both formats, whose turn it is, and what space and window hold back.
use Rattle.std.proofs.Common.{◌≡◌, ℕ, true, false, [], ◌∷◌, length, map, refl}
use Rattle.sctp_model.specs.messages.Format.{Format, Plain, Interleaved, ordered_lane, unordered_lane}
use Rattle.sctp_model.specs.wire.Chunk.{Data, IData}
use Rattle.sctp_model.specs.messages.Plan.{Part}
use Rattle.sctp_model.specs.sender.SenderView.{SenderView, fresh_sender}
use Rattle.sctp_model.specs.sender.Entries.{in_flight}
use Rattle.sctp_model.specs.sender.Filling.{fill}
use Rattle.sctp_model.specs.sender.SackTaken.{sack_after}
use Rattle.sctp_model.specs.sender.Abandoning.{timed_out}
use Rattle.sctp_outcomes.proofs.sender.Makers.{asks, asks_unordered, piece, chunks, indexes, sack, plain_limits}

-- ---- three fragments beside two further streams, over the wrap of the TSN

-- three streams, fragments of 4 bytes, first TSN 4294967295
abbrev asked : SenderView
asked = asks_unordered (asks (asks (fresh_sender 4294967295 3 4 100 true plain_limits) 0 7 (1 ∷ 2 ∷ 3 ∷ 4 ∷ 5 ∷ 6 ∷ 7 ∷ 8 ∷ 9 ∷ [])) 1 8 (11 ∷ 12 ∷ 13 ∷ 14 ∷ 15 ∷ [])) 2 9 (21 ∷ [])

-- under DATA a message goes whole before the next one; each fragment has the payload id
of_data : chunks Plain (fill Plain 200 asked).wishes
    ≡ Data (piece false true false 4294967295 0 0 7 (1 ∷ 2 ∷ 3 ∷ 4 ∷ []))
    ∷ Data (piece false false false 0 0 0 7 (5 ∷ 6 ∷ 7 ∷ 8 ∷ []))
    ∷ Data (piece false false true 1 0 0 7 (9 ∷ []))
    ∷ Data (piece false true false 2 1 0 8 (11 ∷ 12 ∷ 13 ∷ 14 ∷ []))
    ∷ Data (piece false false true 3 1 0 8 (15 ∷ []))
    ∷ Data (piece true true true 4 2 0 9 (21 ∷ []))
    ∷ []
of_data = refl

-- under I-DATA the streams take turns; the first fragment has the payload id, the others their number
of_i_data : chunks Interleaved (fill Interleaved 200 asked).wishes
    ≡ IData (piece false true false 4294967295 0 0 7 (1 ∷ 2 ∷ 3 ∷ 4 ∷ []))
    ∷ IData (piece false true false 0 1 0 8 (11 ∷ 12 ∷ 13 ∷ 14 ∷ []))
    ∷ IData (piece true true true 1 2 0 9 (21 ∷ []))
    ∷ IData (piece false false false 2 0 0 1 (5 ∷ 6 ∷ 7 ∷ 8 ∷ []))
    ∷ IData (piece false false true 3 1 0 1 (15 ∷ []))
    ∷ IData (piece false false true 4 0 0 2 (9 ∷ []))
    ∷ []
of_i_data = refl

-- ---- turns from packet to packet

-- two chunks of 24 bytes fit into each packet
abbrev first_packet : SenderView
first_packet = (fill Interleaved 48 asked).view

abbrev second_packet : SenderView
second_packet = (fill Interleaved 48 first_packet).view

turns_go_on : first_packet.turn ∷ second_packet.turn ∷ (fill Interleaved 48 second_packet).view.turn ∷ [] ≡ 2 ∷ 1 ∷ 1 ∷ []
turns_go_on = refl

second_is : chunks Interleaved (fill Interleaved 48 first_packet).wishes ≡ IData (piece true true true 1 2 0 9 (21 ∷ [])) ∷ IData (piece false false false 2 0 0 1 (5 ∷ 6 ∷ 7 ∷ 8 ∷ [])) ∷ []
second_is = refl

-- a stream goes on with its message in part before it begins the next one, ordered or not, and a stream with nothing is passed over
abbrev one_stream : SenderView
one_stream = asks (asks_unordered (asks (fresh_sender 1 3 4 100 true plain_limits) 2 0 (1 ∷ 2 ∷ 3 ∷ 4 ∷ 5 ∷ [])) 2 0 (6 ∷ [])) 2 0 (7 ∷ [])

one_at_a_time : (fill Interleaved 200 one_stream).view.plan.entries ≡ Part (ordered_lane 2) 0 0 ∷ Part (ordered_lane 2) 0 1 ∷ Part (unordered_lane 2) 0 0 ∷ Part (ordered_lane 2) 1 0 ∷ []
one_at_a_time = refl

-- ---- space

-- a chunk takes 20 bytes; if not even one fits, no message takes a number
too_little : ((fill Plain 19 asked).wishes ≡ []) × ((fill Plain 19 asked).view ≡ asked)
too_little = (refl, refl)

-- if one fits, all three fragments take their indexes and the first goes; the others are first in the next packet
abbrev one_went : SenderView
one_went = (fill Plain 39 asked).view

one_goes : (indexes (fill Plain 39 asked).wishes ≡ 1 ∷ []) × (one_went.plan.entries ≡ Part (ordered_lane 0) 0 0 ∷ Part (ordered_lane 0) 0 1 ∷ Part (ordered_lane 0) 0 2 ∷ [])
    × (indexes (fill Plain 60 one_went).wishes ≡ 2 ∷ 3 ∷ 4 ∷ [])
one_goes = (refl, refl, refl)

-- ---- the peer's window

-- a message of 16 bytes in four fragments, against a window of this many bytes
abbrev sixteen : (rwnd : ℕ) → SenderView
sixteen rwnd = asks (fresh_sender 1 1 4 rwnd true plain_limits) 0 0 (1 ∷ 2 ∷ 3 ∷ 4 ∷ 5 ∷ 6 ∷ 7 ∷ 8 ∷ 9 ∷ 10 ∷ 11 ∷ 12 ∷ 13 ∷ 14 ∷ 15 ∷ 16 ∷ [])

-- how many chunks go
abbrev many : Format → (rwnd : ℕ) → ℕ
many f rwnd = length (fill f 200 (sixteen rwnd)).wishes

-- all of it into a window of 16 bytes; a byte less holds back the last one; if nothing is in flight one goes whatever the window is
window_holds : map (many Plain) (16 ∷ 15 ∷ 12 ∷ 4 ∷ 0 ∷ []) ≡ 4 ∷ 3 ∷ 3 ∷ 1 ∷ 1 ∷ []
window_holds = refl

window_holds_alike : map (many Interleaved) (16 ∷ 15 ∷ 12 ∷ 4 ∷ 0 ∷ []) ≡ 4 ∷ 3 ∷ 3 ∷ 1 ∷ 1 ∷ []
window_holds_alike = refl

-- repeats aren't held back: the first chunk arrived, the window is shut, and the timer expires
abbrev shut : SenderView
shut = timed_out (sack_after (fill Plain 200 (sixteen 16)).view (sack 1 0 []))

repeats_go : (indexes (fill Plain 200 shut).wishes ≡ 2 ∷ 3 ∷ 4 ∷ []) × (in_flight shut ≡ 0) × (in_flight (fill Plain 200 shut).view ≡ 12)
repeats_go = (refl, refl, refl)
