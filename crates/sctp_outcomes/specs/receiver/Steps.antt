-- A receiver's steps, computed from the whole messages among its kept chunks.
use Rattle.std.specs.Prelude.{◌≡◌, ℕ, zero, suc, ◌≤◌, nat_lt, max, Bool, true, false, List, [], ◌∷◌, ◌++◌, Option, Some, None}
use Rattle.sctp_model.specs.numbers.Lists.{at}
use Rattle.sctp_model.specs.wire.Chunk.{PieceMeaning, ForwardMeaning}
use Rattle.sctp_model.specs.messages.Format.{Format, Kind, Ordered, Unordered, ordered_lane}
use Rattle.sctp_model.specs.messages.Pieces.{Piece}
use Rattle.sctp_model.specs.receiver.ReceiverView.{Handed, ReceiverView}
use Rattle.sctp_model.specs.receiver.Reading.{piece_at}
use Rattle.sctp_model.specs.receiver.Receiving.{message_of, without_below, handed_unordered, recorded}
use Rattle.sctp_model.specs.receiver.PieceTaken.{PieceAnswer, Duplicate, Ahead, NoSuchStream, Passed, NoRoom, Kept, answer_to, noted}
use Rattle.sctp_model.specs.receiver.ForwardTaken.{ForwardAnswer, OutOfDate, Bad, Moved, forward_answer, jumped, let_go}
use Rattle.sctp_outcomes.specs.receiver.Wholes.{whole_number, whole_with}

-- ---- the cumulative index

-- on to the next index if it was recorded; else this one is the last
abbrev pub next_if : Bool → ℕ → (ℕ → ℕ) → ℕ
next_if true c more = more (suc c)
next_if false c more = c

-- from c on, over at most this many recorded indexes
abbrev pub cumulative_from : (ℕ → Bool) → (depth : ℕ) → ℕ → ℕ
cumulative_from seen zero c = c
cumulative_from seen (suc depth) c = next_if (seen (suc c)) c (cumulative_from seen depth)

-- no index above the bound was recorded
abbrev pub IsBound : ReceiverView → ℕ → Type 0
IsBound r bound = (i : ℕ) → r.seen i ≡ true → i ≤ bound

-- the cumulative index (RFC 9260, 3.3.4): from where a FORWARD jumped to, over all that was recorded without a gap
abbrev pub cumulative : ReceiverView → (bound : ℕ) → ℕ
cumulative r bound = cumulative_from r.seen bound r.jump

-- ---- what is due on a stream

-- what is delivered on a stream, in order, and the next number after it
pub record DueOnStream : Type 0 where
  pub messages : List Handed
  pub next : ℕ

-- the same with one more message in front
abbrev pub with_due_message : Handed → DueOnStream → DueOnStream
with_due_message h d = record { messages = h ∷ d.messages; next = d.next }

-- what is done with one number: a whole message is delivered, a skipped number passed over, and at another one it ends
abbrev pub due_at : Format → Option (List Piece) → Bool → ℕ → (ℕ → DueOnStream) → DueOnStream
due_at f (Some (x ∷ xs)) skipped n more = with_due_message (message_of f x xs) (more (suc n))
due_at f (Some []) skipped n more = record { messages = []; next = n }
due_at f None true n more = more (suc n)
due_at f None false n more = record { messages = []; next = n }

-- from number n on, over at most this many numbers; those below `skip` may be passed over
abbrev pub due_from : Format → List Piece → (stream skip : ℕ) → (depth : ℕ) → ℕ → DueOnStream
due_from f kept s skip zero n = record { messages = []; next = n }
due_from f kept s skip (suc depth) n = due_at f (whole_number f kept (ordered_lane s) n) (nat_lt n skip) n (due_from f kept s skip depth)

-- one past the number
abbrev pub past_number : Option ℕ → ℕ
past_number None = 0
past_number (Some n) = suc n

-- one past the largest number
abbrev pub numbers : List Piece → ℕ
numbers [] = 0
numbers (x ∷ xs) = max (past_number x.number) (numbers xs)

-- what is due on a stream from its next number on
abbrev pub due : Format → ReceiverView → ℕ → DueOnStream
due f r s = due_from f r.kept s (r.skip (ordered_lane s)) (max (r.skip (ordered_lane s)) (numbers r.kept)) (r.next s)

-- ---- delivering

-- what is due on stream s waits for the user, and the chunks of the numbers that are done with go (RFC 9260, 6.6)
abbrev pub gives_ordered : Format → ℕ → ReceiverView → ReceiverView
gives_ordered f s r = record r {
  next = at r.next s (due f r s).next;
  waiting = at r.waiting s (r.waiting s ++ (due f r s).messages);
  kept = without_below r.kept s (due f r s).next;
}

-- the same on the first n streams, in their order
abbrev pub gives_all : Format → ℕ → ReceiverView → ReceiverView
gives_all f zero r = r
gives_all f (suc n) r = gives_ordered f n (gives_all f n r)

-- a whole unordered message, if there is one, waits for the user
abbrev pub handed_if : Format → ReceiverView → Option (List Piece) → ReceiverView
handed_if f r (Some (x ∷ xs)) = handed_unordered f r x xs
handed_if f r (Some []) = r
handed_if f r None = r

-- the whole message of an unordered chunk is delivered at once, if it is complete
abbrev pub gives_unordered : Format → Piece → ReceiverView → ReceiverView
gives_unordered f y r = handed_if f r (whole_with f r.kept y)

-- what a chunk that is taken makes go to the user, by its kind
abbrev pub gives : Format → Kind → Piece → ReceiverView → ReceiverView
gives f Ordered y r = gives_ordered f y.lane.stream r
gives f Unordered y r = gives_unordered f y r

-- ---- a data chunk and a FORWARD

-- the view after a chunk with this answer: what was recorded and kept, and what was delivered
abbrev pub after_piece : Format → ReceiverView → Piece → ℕ → PieceAnswer → ReceiverView
after_piece f r x wire Duplicate = noted r wire
after_piece f r x wire Ahead = r
after_piece f r x wire NoSuchStream = recorded r x
after_piece f r x wire Passed = recorded r x
after_piece f r x wire NoRoom = r
after_piece f r x wire Kept = gives f x.lane.kind x (record (recorded r x) { kept = x ∷ r.kept })

-- the view after a data chunk, at this cumulative index
abbrev pub piece_step : Format → ReceiverView → ℕ → PieceMeaning → ReceiverView
piece_step f r c p = after_piece f r (piece_at f r c p) p.tsn (answer_to f r c p)

-- the view after a FORWARD with this answer (RFC 3758, 3.6; RFC 8260, 2.3.1)
abbrev pub after_forward : Format → ReceiverView → ℕ → ForwardMeaning → ForwardAnswer → ReceiverView
after_forward f r c x OutOfDate = r
after_forward f r c x Bad = r
after_forward f r c x Moved = gives_all f r.streams (let_go f (jumped f r c x))

-- the view after a FORWARD, at this cumulative index
abbrev pub forward_step : Format → ReceiverView → ℕ → ForwardMeaning → ReceiverView
forward_step f r c x = after_forward f r c x (forward_answer r c x)
