-- A receiver keeps the buffer that it began with, and never holds more.
use Rattle.std.proofs.Common.{◌≡◌, ℕ, zero, suc, Option, Some, None, inl, inr, refl, sym, subst, ◌∙◌}
use Rattle.sctp_model.specs.wire.Chunk.{PieceMeaning, ForwardMeaning}
use Rattle.sctp_model.specs.messages.Format.{Format, Kind, Ordered, Unordered}
use Rattle.sctp_model.specs.messages.Pieces.{Piece}
use Rattle.sctp_model.specs.receiver.ReceiverView.{Handed, ReceiverView}
use Rattle.sctp_model.specs.receiver.Receiving.{Gives, GivesOrdered, GivesAll}
use Rattle.sctp_model.specs.receiver.Reading.{piece_at}
use Rattle.sctp_model.specs.receiver.PieceTaken.{PieceAnswer, Duplicate, Ahead, NoSuchStream, Passed, NoRoom, Kept, Leaves, PieceTaken}
use Rattle.sctp_model.specs.receiver.ForwardTaken.{ForwardAnswer, OutOfDate, Bad, Moved, ForwardLeaves, ForwardTaken}
use Rattle.sctp_model.specs.receiver.SackMade.{TakeLeaves}
use Rattle.sctp_model.specs.receiver.Laws.{FitsBuffer}
use Rattle.sctp_model.proofs.receiver.HeldBytes.{fresh_fits, piece_fits, forward_fits, sent_fits, take_fits}
use Rattle.sctp_outcomes.proofs.Receivers.{IsReceiverLaw}

-- the receiver has this buffer, and holds no more
pub record IsOfBuffer (f : Format) (b : ℕ) (r : ReceiverView) : Type 0 where
  pub same : r.buffer ≡ b
  pub fits : FitsBuffer r

-- ---- no call changes the buffer

-- both have one buffer
abbrev pub HaveOne : ReceiverView → ReceiverView → Type 0
HaveOne r t = t.buffer ≡ r.buffer

given : (f : Format) (s : ℕ) (r t : ReceiverView) → GivesOrdered f s r t → HaveOne r t
given f s r t (ms, n, due, is) = subst (HaveOne r) (sym is) refl

gives : (f : Format) (k : Kind) (y : Piece) (r t : ReceiverView) → Gives f k y r t → HaveOne r t
gives f Ordered y r t g = given f y.lane.stream r t g
gives f Unordered y r t (inl (x, xs, whole, is)) = subst (HaveOne r) (sym is) refl
gives f Unordered y r t (inr (none, is)) = subst (HaveOne r) (sym is) refl

gives_all : (f : Format) (n : ℕ) (r t : ReceiverView) → GivesAll f n r t → HaveOne r t
gives_all f zero r t is = subst (HaveOne r) (sym is) refl
gives_all f (suc n) r t (mid, before, g) = given f n mid t g ∙ gives_all f n r mid before

by_answer : (f : Format) (r : ReceiverView) (x : Piece) (wire : ℕ) (a : PieceAnswer) (t : ReceiverView) → Leaves f r x wire a t → HaveOne r t
by_answer f r x wire Duplicate t is = subst (HaveOne r) (sym is) refl
by_answer f r x wire Ahead t is = subst (HaveOne r) (sym is) refl
by_answer f r x wire NoSuchStream t is = subst (HaveOne r) (sym is) refl
by_answer f r x wire Passed t is = subst (HaveOne r) (sym is) refl
by_answer f r x wire NoRoom t is = subst (HaveOne r) (sym is) refl
by_answer f r x wire Kept t g = gives f x.lane.kind x _ t g

by_forward : (f : Format) (r : ReceiverView) (c : ℕ) (m : ForwardMeaning) (a : ForwardAnswer) (t : ReceiverView) → ForwardLeaves f r c m a t → HaveOne r t
by_forward f r c m OutOfDate t is = subst (HaveOne r) (sym is) refl
by_forward f r c m Bad t is = subst (HaveOne r) (sym is) refl
by_forward f r c m Moved t g = gives_all f r.streams _ t g

pub piece_keeps_buffer : (f : Format) (r : ReceiverView) (p : PieceMeaning) (a : PieceAnswer) (t : ReceiverView) → PieceTaken f r p a t → HaveOne r t
piece_keeps_buffer f r p a t came = by_answer f r (piece_at f r came.c p) p.tsn a t came.leaves

pub forward_keeps_buffer : (f : Format) (r : ReceiverView) (m : ForwardMeaning) (a : ForwardAnswer) (t : ReceiverView) → ForwardTaken f r m a t → HaveOne r t
forward_keeps_buffer f r m a t came = by_forward f r came.c m a t came.leaves

pub take_keeps_buffer : (r : ReceiverView) (s : ℕ) (h : Option Handed) (t : ReceiverView) → TakeLeaves r s h t → HaveOne r t
take_keeps_buffer r s None t (none, is) = subst (HaveOne r) (sym is) refl
take_keeps_buffer r s (Some h) t (rest, waits, is) = subst (HaveOne r) (sym is) refl

pub buffer_law : IsReceiverLaw IsOfBuffer
buffer_law = record {
  fresh = λ f i n b v. record { same = refl; fits = fresh_fits i n b v };
  piece = λ f b r p a t o came. record { same = piece_keeps_buffer f r p a t came ∙ o.same; fits = piece_fits f r p a t o.fits came };
  forward = λ f b r m a t o came. record { same = forward_keeps_buffer f r m a t came ∙ o.same; fits = forward_fits f r m a t o.fits came };
  sent = λ f b r o. record { same = o.same; fits = sent_fits r o.fits };
  taken = λ f b r s h t o takes. record { same = take_keeps_buffer r s h t takes ∙ o.same; fits = take_fits r s h t o.fits takes };
  reset = λ f b r x o. record { same = o.same; fits = o.fits };
}
