-- Examples, computed: a chunk's answer and index, a number near a count, a FORWARD's answer.
use Rattle.std.proofs.Common.{◌≡◌, ℕ, false, true, List, [], ◌∷◌, Some, None, refl}
use Rattle.sctp_model.specs.messages.Format.{Plain, Interleaved, ordered_lane, unordered_lane}
use Rattle.sctp_model.specs.numbers.Lists.{at}
use Rattle.sctp_model.specs.wire.Chunk.{PieceMeaning, SkipMeaning}
use Rattle.sctp_model.specs.messages.Pieces.{Piece}
use Rattle.sctp_model.specs.messages.Forward.{skipped}
use Rattle.sctp_model.specs.receiver.ReceiverView.{Handed, ReceiverView, fresh_receiver}
use Rattle.sctp_model.specs.receiver.Reading.{number_in, piece_at}
use Rattle.sctp_model.specs.receiver.PieceTaken.{Duplicate, Ahead, NoSuchStream, Passed, NoRoom, Kept, answer_to, noted}
use Rattle.sctp_model.specs.receiver.ForwardTaken.{forward_answer, skips_read, OutOfDate, Bad}

-- the first TSN is 4,294,967,295, there are two streams and three bytes of buffer, and each stream waits for number 65,534
abbrev view : ReceiverView
view = record (fresh_receiver 4294967295 2 3 0) { next = λ s. 65534 }

abbrev chunk : ℕ → ℕ → ℕ → List ℕ → PieceMeaning
chunk tsn stream number bytes = record {
  immediate = false;
  unordered = false;
  begin = true;
  end = true;
  tsn = tsn;
  stream = stream;
  number = number;
  word = 7;
  bytes = bytes;
}

-- the second chunk arrives first, over the wrap of the TSN and of the SSN
second_is_taken : answer_to Plain view 0 (chunk 0 0 65535 (1 ∷ [])) ≡ Kept
second_is_taken = refl

second_index : (piece_at Plain view 0 (chunk 0 0 65535 (1 ∷ []))).index ≡ 2
second_index = refl

-- SSN 1 is the number 65,537 here, and 65,533 is too late
over_the_wrap : number_in Plain view (ordered_lane 0) 1 ≡ Some 65537
over_the_wrap = refl

behind_is_passed : answer_to Plain view 0 (chunk 0 0 65533 (1 ∷ [])) ≡ Passed
behind_is_passed = refl

before_the_first : answer_to Plain view 0 (chunk 4294967294 0 65535 (1 ∷ [])) ≡ Duplicate
before_the_first = refl

came_again : answer_to Plain (record view { seen = at view.seen 2 true }) 0 (chunk 0 0 65535 (1 ∷ [])) ≡ Duplicate
came_again = refl

past_the_window : answer_to Plain view 0 (chunk 32767 0 65535 (1 ∷ [])) ≡ Ahead
past_the_window = refl

-- a stream that isn't there counts before a number that is too late
no_such_stream : answer_to Plain view 0 (chunk 0 2 65533 (1 ∷ [])) ≡ NoSuchStream
no_such_stream = refl

-- space for exactly three bytes
three_fit : answer_to Plain view 0 (chunk 0 0 65535 (1 ∷ 2 ∷ 3 ∷ [])) ≡ Kept
three_fit = refl

four_dont : answer_to Plain view 0 (chunk 0 0 65535 (1 ∷ 2 ∷ 3 ∷ 4 ∷ [])) ≡ NoRoom
four_dont = refl

-- under I-DATA 2^64 - 1 is no number, and half of the space away there is none
largest_is_none : answer_to Interleaved (record view { next = λ s. 18446744073709551610 }) 0 (chunk 0 0 4294967295 (1 ∷ [])) ≡ Passed
largest_is_none = refl

-- 2^32 - 1 is a number, and so are those after it, whose MIDs begin again at 0
last_before_the_wrap : number_in Interleaved (record view { next = λ s. 4294967290 }) (ordered_lane 0) 4294967295 ≡ Some 4294967295
last_before_the_wrap = refl

first_behind_the_wrap : number_in Interleaved (record view { next = λ s. 4294967290 }) (ordered_lane 0) 0 ≡ Some 4294967296
first_behind_the_wrap = refl

-- an index goes on over 2^32
index_behind_the_wrap : (piece_at Plain view 4294967294 (chunk 0 0 65535 (1 ∷ []))).index ≡ 4294967298
index_behind_the_wrap = refl

half_way_is_none : number_in Interleaved (record view { next = λ s. 0 }) (ordered_lane 0) 2147483648 ≡ None
half_way_is_none = refl

-- an unordered DATA has no number and is taken all the same
unordered_data : answer_to Plain view 0 (record (chunk 0 0 9 (1 ∷ [])) { unordered = true }) ≡ Kept
unordered_data = refl

-- under I-DATA a fragment that is held is passed, by its fragment number: 0 without B is as 0 with B
held : Piece
held = record { index = 9; lane = unordered_lane 1; number = Some 4; begin = true; end = false; word = 7; bytes = [] }

fragment_again : answer_to Interleaved (record view { kept = held ∷ [] }) 0 (record (chunk 1 1 4 (1 ∷ [])) { unordered = true; begin = false; word = 0 }) ≡ Passed
unfolding held
fragment_again = refl

-- An unordered MID is read near the largest number of its stream: of a chunk that is kept, of a message that was delivered, or that was skipped.
told : Handed
told = record { first = 9; lane = unordered_lane 1; number = Some 2147483650; payload = 0; bytes = [] }

near_the_kept : number_in Interleaved (record view { kept = held ∷ [] }) (unordered_lane 1) 2147483651 ≡ Some 2147483651
unfolding held
near_the_kept = refl

near_the_handed : number_in Interleaved (record view { taken = λ s. told ∷ [] }) (unordered_lane 1) 1 ≡ Some 4294967297
unfolding told
near_the_handed = refl

near_the_skipped : number_in Interleaved (record view { skip = λ l. 2147483651 }) (unordered_lane 1) 1 ≡ Some 4294967297
near_the_skipped = refl

near_none : number_in Interleaved view (unordered_lane 1) 2147483648 ≡ None
near_none = refl

-- the first 16 duplicates are noted
sixteen : (record view { duplicates = 1 ∷ 2 ∷ 3 ∷ 4 ∷ 5 ∷ 6 ∷ 7 ∷ 8 ∷ 9 ∷ 10 ∷ 11 ∷ 12 ∷ 13 ∷ 14 ∷ 15 ∷ 16 ∷ [] }) ≡ noted (record view { duplicates = 1 ∷ 2 ∷ 3 ∷ 4 ∷ 5 ∷ 6 ∷ 7 ∷ 8 ∷ 9 ∷ 10 ∷ 11 ∷ 12 ∷ 13 ∷ 14 ∷ 15 ∷ 16 ∷ [] }) 17
sixteen = refl

-- ---- FORWARDs

-- an old one is out of date whatever stream it names, a new one that names a stream that isn't there is bad
old_is_out_of_date : forward_answer view 0 (record { cumulative = 4294967294; skips = record { stream = 2; unordered = false; number = 0 } ∷ [] }) ≡ OutOfDate
old_is_out_of_date = refl

other_stream_is_bad : forward_answer view 0 (record { cumulative = 5; skips = record { stream = 2; unordered = false; number = 0 } ∷ [] }) ≡ Bad
other_stream_is_bad = refl

far_is_bad : forward_answer view 0 (record { cumulative = 40000; skips = [] }) ≡ Bad
far_is_bad = refl

-- of two numbers of a stream the larger one counts, over the wrap of the SSN; one that is too late doesn't; a MID half the space away has no number
abbrev entry : ℕ → ℕ → SkipMeaning
entry stream number = record { stream = stream; unordered = false; number = number }

larger_counts : skipped view.skip (skips_read Plain view (entry 1 2 ∷ entry 1 0 ∷ entry 1 65533 ∷ [])) (ordered_lane 1) ≡ 65539
larger_counts = refl

two_count : skips_read Plain view (entry 1 2 ∷ entry 1 0 ∷ entry 1 65533 ∷ []) ≡ record { lane = ordered_lane 1; number = 65538 } ∷ record { lane = ordered_lane 1; number = 65536 } ∷ []
two_count = refl

none_is_near : skips_read Interleaved (fresh_receiver 1 1 3 0) (entry 0 2147483648 ∷ []) ≡ []
none_is_near = refl
