-- No receiver records without end: in every world there is an index above which it recorded nothing.
use Rattle.std.proofs.Common.{◌≡◌, ℕ, zero, suc, ◌≤◌, max, true, Option, Some, None, inl, inr, refl, sym, subst, arith}
use Rattle.std.proofs.lemmas.Bool.Decides.{nat_tests}
use Rattle.sctp_model.specs.messages.Format.{Format, Kind, Ordered, Unordered}
use Rattle.sctp_model.specs.messages.Pieces.{Piece}
use Rattle.sctp_model.specs.numbers.Lists.{at}
use Rattle.sctp_model.specs.wire.Chunk.{ForwardMeaning}
use Rattle.sctp_model.specs.receiver.ReceiverView.{Handed, ReceiverView}
use Rattle.sctp_model.specs.receiver.Receiving.{Gives, GivesOrdered, GivesAll}
use Rattle.sctp_model.specs.receiver.Reading.{piece_at}
use Rattle.sctp_model.specs.receiver.PieceTaken.{PieceAnswer, Duplicate, Ahead, NoSuchStream, Passed, NoRoom, Kept, Leaves}
use Rattle.sctp_model.specs.receiver.ForwardTaken.{ForwardAnswer, OutOfDate, Bad, Moved, ForwardLeaves}
use Rattle.sctp_model.specs.receiver.SackMade.{sack_sent, TakeLeaves}
use Rattle.sctp_outcomes.specs.receiver.Steps.{IsBound}
use Rattle.sctp_outcomes.proofs.Receivers.{IsReceiverLaw, Whatever}

-- there is such an index
pub record IsBounded (f : Format) (r : ReceiverView) : Type 0 where
  pub bound : ℕ
  pub within : IsBound r bound

same_seen : (f g : Format) (r t : ReceiverView) → t.seen ≡ r.seen → IsBounded f r → IsBounded g t
same_seen f g r t e b = record { bound = b.bound; within = λ i h. b.within i (subst (λ (s : ℕ → _). s i ≡ true) e h) }

one_more : (f : Format) (r t : ReceiverView) (j : ℕ) → t.seen ≡ at r.seen j true → IsBounded f r → IsBounded f t
one_more f r t j e b = record { bound = max b.bound j; within = λ i h. go i (subst (λ (s : ℕ → _). s i ≡ true) e h) }
  where
    go : (i : ℕ) → at r.seen j true i ≡ true → i ≤ max b.bound j
    go i h = let w = b.within i in grind (arith, nat_tests)

pub given_seen : (f : Format) (s : ℕ) (r t : ReceiverView) → GivesOrdered f s r t → t.seen ≡ r.seen
given_seen f s r t (ms, n, due, is) = subst (λ (u : ReceiverView). u.seen ≡ r.seen) (sym is) refl

pub gives_seen : (f : Format) (k : Kind) (y : Piece) (r t : ReceiverView) → Gives f k y r t → t.seen ≡ r.seen
gives_seen f Ordered y r t g = given_seen f y.lane.stream r t g
gives_seen f Unordered y r t (inl (x, xs, whole, is)) = subst (λ (u : ReceiverView). u.seen ≡ r.seen) (sym is) refl
gives_seen f Unordered y r t (inr (none, is)) = subst (λ (u : ReceiverView). u.seen ≡ r.seen) (sym is) refl

pub all_seen : (f : Format) (n : ℕ) (r t : ReceiverView) → GivesAll f n r t → t.seen ≡ r.seen
all_seen f zero r t is = subst (λ (u : ReceiverView). u.seen ≡ r.seen) (sym is) refl
all_seen f (suc n) r t (mid, before, g) = subst (λ (u : _). t.seen ≡ u) (all_seen f n r mid before) (given_seen f n mid t g)

by_answer : (f : Format) (r : ReceiverView) (x : Piece) (wire : ℕ) (a : PieceAnswer) (t : ReceiverView) → IsBounded f r → Leaves f r x wire a t → IsBounded f t
by_answer f r x wire Duplicate t b is = subst (IsBounded f) (sym is) (same_seen f f r _ refl b)
by_answer f r x wire Ahead t b is = subst (IsBounded f) (sym is) b
by_answer f r x wire NoSuchStream t b is = subst (IsBounded f) (sym is) (one_more f r _ x.index refl b)
by_answer f r x wire Passed t b is = subst (IsBounded f) (sym is) (one_more f r _ x.index refl b)
by_answer f r x wire NoRoom t b is = subst (IsBounded f) (sym is) b
by_answer f r x wire Kept t b gives = one_more f r t x.index (gives_seen f x.lane.kind x _ t gives) b

by_forward : (f : Format) (r : ReceiverView) (c : ℕ) (m : ForwardMeaning) (a : ForwardAnswer) (t : ReceiverView) → IsBounded f r → ForwardLeaves f r c m a t → IsBounded f t
by_forward f r c m OutOfDate t b is = subst (IsBounded f) (sym is) b
by_forward f r c m Bad t b is = subst (IsBounded f) (sym is) b
by_forward f r c m Moved t b gives = same_seen f f r t (all_seen f r.streams _ t gives) b

pub bounded_law : IsReceiverLaw (Whatever IsBounded)
bounded_law = record {
  fresh = λ f i n b v. record { bound = 0; within = λ j h. absurd (cc) };
  piece = λ f n r p a t b came. by_answer f r (piece_at f r came.c p) p.tsn a t b came.leaves;
  forward = λ f n r m a t b came. by_forward f r came.c m a t b came.leaves;
  sent = λ f n r b. same_seen f f r (sack_sent r) refl b;
  taken = λ f n r s h t b takes. by_taken f r s h t b takes;
  reset = λ f n r x b. same_seen f f r (record r { resets = x }) refl b;
}
  where
    by_taken : (f : Format) (r : ReceiverView) (s : ℕ) (h : Option Handed) (t : ReceiverView) → IsBounded f r → TakeLeaves r s h t → IsBounded f t
    by_taken f r s None t b (none, is) = subst (IsBounded f) (sym is) b
    by_taken f r s (Some h) t b (rest, waits, is) = subst (IsBounded f) (sym is) (same_seen f f r _ refl b)
