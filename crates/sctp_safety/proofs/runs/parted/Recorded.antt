-- A call of a receiver records no index that was reached before.
use Rattle.std.proofs.Common.{◌≡◌, ℕ, zero, suc, ◌<◌, Bool, true, false, inl, inr, sym, subst, ap, ◌∙◌, arith}
use Rattle.sctp_model.specs.numbers.Lists.{at}
use Rattle.sctp_model.specs.wire.Chunk.{PieceMeaning, ForwardMeaning}
use Rattle.sctp_model.specs.messages.Format.{Format, Kind, Ordered, Unordered}
use Rattle.sctp_model.specs.messages.Pieces.{Piece}
use Rattle.sctp_model.specs.receiver.ReceiverView.{ReceiverView, Reaches, IsCumulative}
use Rattle.sctp_model.specs.receiver.Receiving.{Gives, GivesOrdered, GivesAll}
use Rattle.sctp_model.specs.receiver.Reading.{piece_at}
use Rattle.sctp_model.specs.receiver.PieceTaken.{PieceAnswer, Duplicate, Ahead, NoSuchStream, Passed, NoRoom, Kept, Leaves, PieceTaken, answer_to}
use Rattle.sctp_model.specs.receiver.ForwardTaken.{ForwardAnswer, OutOfDate, Bad, Moved, forwarded, ForwardLeaves, ForwardTaken}
use Rattle.sctp_safety.proofs.lists.Basics.{at_cases}
use Rattle.sctp_safety.proofs.receiving.PieceAnswers.{ahead_of, fresh_is}

given_seen : (f : Format) (s : ℕ) (r t : ReceiverView) → GivesOrdered f s r t → t.seen ≡ r.seen
given_seen f s r t (ms, n, due, is) = ap (λ (x : ReceiverView). x.seen) is

gives_seen : (f : Format) (k : Kind) (y : Piece) (r t : ReceiverView) → Gives f k y r t → t.seen ≡ r.seen
gives_seen f Ordered y r t g = given_seen f y.lane.stream r t g
gives_seen f Unordered y r t (inl (x, xs, whole, is)) = ap (λ (z : ReceiverView). z.seen) is
gives_seen f Unordered y r t (inr (none, is)) = ap (λ (z : ReceiverView). z.seen) is

all_seen : (f : Format) (n : ℕ) (r t : ReceiverView) → GivesAll f n r t → t.seen ≡ r.seen
all_seen f zero r t is = ap (λ (z : ReceiverView). z.seen) is
all_seen f (suc n) r t (mid, before, g) = given_seen f n mid t g ∙ all_seen f n r mid before

-- an index past the cumulative one, that wasn't recorded
past_unreached : (r : ReceiverView) (c i : ℕ) → IsCumulative r c → c < i → r.seen i ≡ false → Reaches r i → ⊥
past_unreached r c i cumulative past off (inl on) = cc
past_unreached r c i cumulative past off (inr le) = cumulative.open_end (inr (omega (arith, past, le)))

-- what a chunk records
pub piece_records : (f : Format) (r : ReceiverView) (p : PieceMeaning) (o : PieceAnswer) (t : ReceiverView) → PieceTaken f r p o t → (j : ℕ) → r.seen j ≡ false → t.seen j ≡ true → Reaches r j → ⊥
piece_records f r p o t taken j off on = go o taken.answer taken.leaves
  where
    x : Piece
    x = piece_at f r taken.c p

    same : t.seen ≡ r.seen → Reaches r j → ⊥
    same is reached = let h = ap (λ (g : ℕ → Bool). g j) is in cc

    records : (o : PieceAnswer) → o ≡ answer_to f r taken.c p → (Duplicate ≡ o → ⊥) → t.seen ≡ at r.seen x.index true → Reaches r j → ⊥
    records o answer other is reached = which (ap (λ (g : ℕ → Bool). g j) (sym is) ∙ on)
      where
        past : taken.c < x.index
        past = let new = fresh_is f r taken.c p o answer other in let h = (ahead_of r taken.c p.tsn new.ahead).0 in omega (arith, h)

        which : at r.seen x.index true j ≡ true → ⊥
        which h = at_cases (λ (b : Bool). b ≡ true → ⊥) r.seen x.index true j
            (λ e seen. past_unreached r taken.c x.index taken.cumulative past (subst (λ (i : ℕ). r.seen i ≡ false) e off) (subst (Reaches r) e reached)) (λ ne seen. cc) h

    go : (o : PieceAnswer) → o ≡ answer_to f r taken.c p → Leaves f r x p.tsn o t → Reaches r j → ⊥
    go Duplicate answer is = same (ap (λ (z : ReceiverView). z.seen) is)
    go Ahead answer is = same (ap (λ (z : ReceiverView). z.seen) is)
    go NoRoom answer is = same (ap (λ (z : ReceiverView). z.seen) is)
    go NoSuchStream answer is = records NoSuchStream answer (λ e. cc) (ap (λ (z : ReceiverView). z.seen) is)
    go Passed answer is = records Passed answer (λ e. cc) (ap (λ (z : ReceiverView). z.seen) is)
    go Kept answer gives = records Kept answer (λ e. cc) (gives_seen f x.lane.kind x _ t gives)

-- a FORWARD records nothing
pub forward_records : (f : Format) (r : ReceiverView) (m : ForwardMeaning) (o : ForwardAnswer) (t : ReceiverView) → ForwardTaken f r m o t → t.seen ≡ r.seen
forward_records f r m o t taken = go o taken.leaves
  where
    go : (o : ForwardAnswer) → ForwardLeaves f r taken.c m o t → t.seen ≡ r.seen
    go OutOfDate is = ap (λ (z : ReceiverView). z.seen) is
    go Bad is = ap (λ (z : ReceiverView). z.seen) is
    go Moved gives = all_seen f r.streams (forwarded f r taken.c m) t gives
