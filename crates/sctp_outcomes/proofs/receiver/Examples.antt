-- Small receivers, computed: chunks over the wraps, fragments of two messages, a dishonest pair, a buffer to the last byte, FORWARDs over what is not
-- whole, blocks.
use Rattle.std.proofs.Common.{◌≡◌, ℕ, Bool, true, false, ◌||◌, ◌==◌, List, [], ◌∷◌, map, Option, Some, None, refl}
use Rattle.sctp_model.specs.wire.Chunk.{PieceMeaning, SkipMeaning, ForwardMeaning}
use Rattle.sctp_model.specs.messages.Format.{Format, Plain, Interleaved}
use Rattle.sctp_model.specs.messages.Pieces.{Piece}
use Rattle.sctp_model.specs.receiver.ReceiverView.{Handed, ReceiverView, fresh_receiver, held_bytes, room_left}
use Rattle.sctp_model.specs.receiver.PieceTaken.{Duplicate, Passed, NoRoom, Kept, answer_to}
use Rattle.sctp_model.specs.receiver.ForwardTaken.{OutOfDate, forward_answer}
use Rattle.sctp_outcomes.specs.receiver.Steps.{cumulative, piece_step, forward_step}
use Rattle.sctp_outcomes.specs.receiver.Runs.{all_runs}

-- a chunk of one byte on stream 0, by its flags U, B and E
abbrev pub chunk : (unordered begin end : Bool) → (tsn number word byte : ℕ) → PieceMeaning
chunk u b e tsn number word byte = record {
  immediate = false;
  unordered = u;
  begin = b;
  end = e;
  tsn = tsn;
  stream = 0;
  number = number;
  word = word;
  bytes = byte ∷ [];
}

-- a chunk taken at the cumulative index that the receiver then has; no index above 9 is recorded here
abbrev pub takes : Format → ReceiverView → PieceMeaning → ReceiverView
takes f r p = piece_step f r (cumulative r 9) p

abbrev forwards : Format → ReceiverView → ForwardMeaning → ReceiverView
forwards f r x = forward_step f r (cumulative r 9) x

abbrev texts : List Handed → List (List ℕ)
texts hs = map (λ h. h.bytes) hs

abbrev numbers_of : List Handed → List (Option ℕ)
numbers_of hs = map (λ h. h.number) hs

abbrev indexes : List Piece → List ℕ
indexes xs = map (λ x. x.index) xs

-- ---- two messages swapped, over the wrap of the TSN and of the SSN

abbrev waits_for_65535 : ReceiverView
waits_for_65535 = record (fresh_receiver 4294967295 1 100 0) { next = λ s. 65535 }

abbrev second_came : ReceiverView
second_came = takes Plain waits_for_65535 (chunk false true true 0 0 7 2)

nothing_is_due : (texts (second_came.waiting 0) ≡ []) × (indexes second_came.kept ≡ 2 ∷ [])
nothing_is_due = (refl, refl)

abbrev both_came : ReceiverView
both_came = takes Plain second_came (chunk false true true 4294967295 65535 7 1)

both_are_handed_over : (texts (both_came.waiting 0) ≡ (1 ∷ []) ∷ (2 ∷ []) ∷ []) × (numbers_of (both_came.waiting 0) ≡ Some 65535 ∷ Some 65536 ∷ [])
    × (both_came.next 0 ≡ 65537) × (both_came.kept ≡ []) × (cumulative both_came 9 ≡ 2)
both_are_handed_over = (refl, refl, refl, refl, refl)

-- the second arrives again
again : (answer_to Plain both_came 2 (chunk false true true 0 0 7 2) ≡ Duplicate) × ((takes Plain both_came (chunk false true true 0 0 7 2)).duplicates ≡ 0 ∷ [])
again = (refl, refl)

-- ---- two unordered messages of two fragments, as they may come

-- under DATA each has two consecutive indexes: the first fragments come first
abbrev three_of_data : ReceiverView
three_of_data = takes Plain (takes Plain (takes Plain (fresh_receiver 1 1 100 0) (chunk true true false 1 0 7 1)) (chunk true true false 3 0 8 3)) (chunk true false true 2 0 7 2)

one_of_data : (texts (three_of_data.waiting 0) ≡ (1 ∷ 2 ∷ []) ∷ []) × (numbers_of (three_of_data.waiting 0) ≡ None ∷ []) × (indexes three_of_data.kept ≡ 3 ∷ [])
one_of_data = (refl, refl, refl)

two_of_data : texts ((takes Plain three_of_data (chunk true false true 4 0 8 4)).waiting 0) ≡ (1 ∷ 2 ∷ []) ∷ (3 ∷ 4 ∷ []) ∷ []
two_of_data = refl

-- under I-DATA their indexes may be mixed
abbrev three_of_i_data : ReceiverView
three_of_i_data = takes Interleaved (takes Interleaved (takes Interleaved (fresh_receiver 1 1 100 0) (chunk true true false 1 0 7 1)) (chunk true true false 2 1 8 3)) (chunk true false true 3 0 1 2)

one_of_i_data : (texts (three_of_i_data.waiting 0) ≡ (1 ∷ 2 ∷ []) ∷ []) × (numbers_of (three_of_i_data.waiting 0) ≡ Some 0 ∷ []) × (indexes three_of_i_data.kept ≡ 2 ∷ [])
one_of_i_data = (refl, refl, refl)

two_of_i_data : texts ((takes Interleaved three_of_i_data (chunk true false true 4 1 1 4)).waiting 0) ≡ (1 ∷ 2 ∷ []) ∷ (3 ∷ 4 ∷ []) ∷ []
two_of_i_data = refl

-- ---- a dishonest pair with one number: of two whole messages the lower index counts, and the other goes

abbrev pair_came : ReceiverView
pair_came = takes Plain (takes Plain (fresh_receiver 1 1 100 0) (chunk false true true 3 1 7 3)) (chunk false true true 2 1 7 2)

pair_is_kept : indexes pair_came.kept ≡ 2 ∷ 3 ∷ []
pair_is_kept = refl

abbrev pair_due : ReceiverView
pair_due = takes Plain pair_came (chunk false true true 1 0 7 1)

lower_counts : (texts (pair_due.waiting 0) ≡ (1 ∷ []) ∷ (2 ∷ []) ∷ []) × (pair_due.kept ≡ [])
lower_counts = (refl, refl)

-- ---- space: what is kept and what waits for the user fill the buffer to its last byte

-- two bytes wait and one is kept, of four
abbrev three_held : ReceiverView
three_held = takes Plain (takes Plain (fresh_receiver 1 1 4 0) (record (chunk false true true 1 0 7 1) { bytes = 1 ∷ 2 ∷ [] })) (chunk false true true 3 2 7 3)

-- one byte more fills it; two don't fit, and leave all as it was
abbrev two_more : PieceMeaning
two_more = record (chunk false true true 4 3 7 4) { bytes = 4 ∷ 5 ∷ [] }

one_fits : (held_bytes three_held ≡ 3) × (answer_to Plain three_held 1 (chunk false true true 4 3 7 4) ≡ Kept) × (answer_to Plain three_held 1 two_more ≡ NoRoom) × (takes Plain three_held two_more ≡ three_held)
one_fits = (refl, refl, refl, refl)

-- then not a byte more fits, also of the message that is due; what arrived again, or is waited for no longer, is answered so before that
abbrev four_held : ReceiverView
four_held = takes Plain three_held (chunk false true true 4 3 7 4)

none_fits : (room_left four_held ≡ 0) × (answer_to Plain four_held 1 (chunk false true true 2 1 7 2) ≡ NoRoom) × (answer_to Plain four_held 1 (chunk false true true 4 3 7 4) ≡ Duplicate)
    × (answer_to Plain four_held 1 (chunk false true true 2 0 7 2) ≡ Passed)
none_fits = (refl, refl, refl, refl)

-- when the user has taken what waits, the missing one fits, and all is due
due_again : texts ((takes Plain (record four_held { waiting = λ s. [] }) (chunk false true true 2 1 7 2)).waiting 0) ≡ (2 ∷ []) ∷ (3 ∷ []) ∷ (4 ∷ []) ∷ []
due_again = refl

-- ---- FORWARDs over what is not whole

abbrev names : Bool → ℕ → SkipMeaning
names unordered number = record { stream = 0; unordered = unordered; number = number }

-- an ordered message in part, under both formats: it goes, and its number is passed
abbrev ordered_in_part : Format → ReceiverView
ordered_in_part f = takes f (fresh_receiver 1 1 100 0) (chunk false true false 1 0 7 1)

abbrev ordered_skipped : Format → ReceiverView
ordered_skipped f = forwards f (ordered_in_part f) (record { cumulative = 2; skips = names false 0 ∷ [] })

goes_under_data : (indexes (ordered_in_part Plain).kept ≡ 1 ∷ []) × ((ordered_skipped Plain).kept ≡ []) × ((ordered_skipped Plain).next 0 ≡ 1) × (cumulative (ordered_skipped Plain) 9 ≡ 2)
goes_under_data = (refl, refl, refl, refl)

goes_under_i_data : ((ordered_skipped Interleaved).kept ≡ []) × ((ordered_skipped Interleaved).next 0 ≡ 1) × (cumulative (ordered_skipped Interleaved) 9 ≡ 2)
goes_under_i_data = (refl, refl, refl)

-- unordered fragments: a FORWARD-TSN lets go by index, an I-FORWARD-TSN by the numbers that it names and not by its index
abbrev loose : Format → ReceiverView
loose f = takes f (takes f (fresh_receiver 1 1 100 0) (chunk true true false 1 0 7 1)) (chunk true true false 3 1 8 3)

by_index : indexes (forwards Plain (loose Plain) (record { cumulative = 2; skips = [] })).kept ≡ 3 ∷ []
by_index = refl

by_number : (indexes (forwards Interleaved (loose Interleaved) (record { cumulative = 3; skips = names true 0 ∷ [] })).kept ≡ 3 ∷ [])
    × (indexes (forwards Interleaved (loose Interleaved) (record { cumulative = 3; skips = [] })).kept ≡ 3 ∷ 1 ∷ [])
by_number = (refl, refl)

-- of three messages the second alone arrived: a FORWARD to 3 names 2, and it is delivered all the same
abbrev second_alone : ReceiverView
second_alone = takes Plain (fresh_receiver 1 1 100 0) (chunk false true true 2 1 7 2)

abbrev all_abandoned : ReceiverView
all_abandoned = forwards Plain second_alone (record { cumulative = 3; skips = names false 2 ∷ [] })

second_is_handed_over : (texts (all_abandoned.waiting 0) ≡ (2 ∷ []) ∷ []) × (numbers_of (all_abandoned.waiting 0) ≡ Some 1 ∷ []) × (all_abandoned.next 0 ≡ 3) × (cumulative all_abandoned 9 ≡ 3)
second_is_handed_over = (refl, refl, refl, refl)

-- the first message's chunk arrives late: it is passed, and the FORWARD again is out of date
late_is_behind : (answer_to Plain all_abandoned 3 (chunk false true true 1 0 7 1) ≡ Duplicate)
    × (forward_answer all_abandoned 3 (record { cumulative = 3; skips = names false 2 ∷ [] }) ≡ OutOfDate)
late_is_behind = (refl, refl)

-- ---- the blocks of a SACK

abbrev seen_some : ReceiverView
seen_some = record (fresh_receiver 1 1 100 0) { seen = λ i. (i == 2) || ((i == 3) || (i == 5)) }

blocks_of : all_runs seen_some 0 9 ≡ record { start = 2; end = 3 } ∷ record { start = 5; end = 5 } ∷ []
blocks_of = refl
