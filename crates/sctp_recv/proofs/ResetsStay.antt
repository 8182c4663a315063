-- Resets and the receiver's steps: data, FORWARDs and the user's taking change nothing that is known of them.
use Rattle.std.proofs.Common.{◌≡◌, ℕ, zero, suc, Option, Some, None, inl, inr, ◌∙◌, ap}
use Rattle.std.specs.Prelude.{◌∷◌}
use Rattle.sctp_model.specs.wire.Chunk.{PieceMeaning, ForwardMeaning}
use Rattle.sctp_model.specs.messages.Format.{Format, Kind, Ordered, Unordered}
use Rattle.sctp_model.specs.messages.Pieces.{Piece}
use Rattle.sctp_model.specs.receiver.ReceiverView.{Handed, ReceiverView}
use Rattle.sctp_model.specs.receiver.Reading.{piece_at}
use Rattle.sctp_model.specs.receiver.Receiving.{recorded, Gives, GivesOrdered, GivesAll}
use Rattle.sctp_model.specs.receiver.PieceTaken.{PieceAnswer, Duplicate, Ahead, NoSuchStream, Passed, NoRoom, Kept, Leaves, PieceTaken}
use Rattle.sctp_model.specs.receiver.ForwardTaken.{ForwardAnswer, OutOfDate, Bad, Moved, forwarded, ForwardLeaves, ForwardTaken}
use Rattle.sctp_model.specs.receiver.SackMade.{TakeLeaves}

ordered_resets : (f : Format) (s : ℕ) (r t : ReceiverView) → GivesOrdered f s r t → t.resets ≡ r.resets
ordered_resets f s r t (ms, m, due, is) = ap (λ (v : ReceiverView). v.resets) is

pub all_resets : (f : Format) (n : ℕ) (r t : ReceiverView) → GivesAll f n r t → t.resets ≡ r.resets
all_resets f zero r t is = ap (λ (v : ReceiverView). v.resets) is
all_resets f (suc n) r t (mid, before, last) = ordered_resets f n mid t last ∙ all_resets f n r mid before

-- nor is a message taken by the user while they are delivered
pub all_taken : (f : Format) (n : ℕ) (r t : ReceiverView) → GivesAll f n r t → t.taken ≡ r.taken
all_taken f zero r t is = ap (λ (v : ReceiverView). v.taken) is
all_taken f (suc n) r t (mid, before, (ms, m, due, is)) = ap (λ (v : ReceiverView). v.taken) is ∙ all_taken f n r mid before

gives_resets : (f : Format) (k : Kind) (x : Piece) (r t : ReceiverView) → Gives f k x r t → t.resets ≡ r.resets
gives_resets f Ordered x r t gives = ordered_resets f x.lane.stream r t gives
gives_resets f Unordered x r t (inl (y, ys, whole, is)) = ap (λ (v : ReceiverView). v.resets) is
gives_resets f Unordered x r t (inr (none, is)) = ap (λ (v : ReceiverView). v.resets) is

pub piece_resets : (f : Format) (r : ReceiverView) (p : PieceMeaning) (a : PieceAnswer) (t : ReceiverView) → PieceTaken f r p a t → t.resets ≡ r.resets
piece_resets f r p a t taken = go a taken.leaves
  where
    go : (o : PieceAnswer) → Leaves f r (piece_at f r taken.c p) p.tsn o t → t.resets ≡ r.resets
    go Duplicate is = ap (λ (v : ReceiverView). v.resets) is
    go Ahead is = ap (λ (v : ReceiverView). v.resets) is
    go NoSuchStream is = ap (λ (v : ReceiverView). v.resets) is
    go Passed is = ap (λ (v : ReceiverView). v.resets) is
    go NoRoom is = ap (λ (v : ReceiverView). v.resets) is
    go Kept gives =
        gives_resets f (piece_at f r taken.c p).lane.kind (piece_at f r taken.c p) (record (recorded r (piece_at f r taken.c p)) { kept = piece_at f r taken.c p ∷ r.kept }) t gives

pub forward_resets : (f : Format) (r : ReceiverView) (x : ForwardMeaning) (a : ForwardAnswer) (t : ReceiverView) → ForwardTaken f r x a t → t.resets ≡ r.resets
forward_resets f r x a t taken = go a taken.leaves
  where
    go : (o : ForwardAnswer) → ForwardLeaves f r taken.c x o t → t.resets ≡ r.resets
    go OutOfDate is = ap (λ (v : ReceiverView). v.resets) is
    go Bad is = ap (λ (v : ReceiverView). v.resets) is
    go Moved gives = all_resets f r.streams (forwarded f r taken.c x) t gives

pub take_resets : (r : ReceiverView) (s : ℕ) (h : Option Handed) (t : ReceiverView) → TakeLeaves r s h t → t.resets ≡ r.resets
take_resets r s None t (none, is) = ap (λ (v : ReceiverView). v.resets) is
take_resets r s (Some h) t (rest, there, is) = ap (λ (v : ReceiverView). v.resets) is
