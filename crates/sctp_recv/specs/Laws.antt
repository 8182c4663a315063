-- What the laws of the receiver's steps say, and those of the views that receivers stand for.
use Rattle.std.specs.Prelude.{◌≡◌, ℕ, suc, ◌<◌, true, List, Option}
use Rattle.sctp_model.specs.numbers.Serial.{COUNTS}
use Rattle.sctp_model.specs.messages.Format.{Format}
use Rattle.sctp_model.specs.wire.Chunk.{PieceMeaning, ForwardMeaning}
use Rattle.sctp_model.specs.receiver.ReceiverView.{Handed, ReceiverView, IsCumulative}
use Rattle.sctp_model.specs.receiver.Receiving.{IsDue, GivesAll}
use Rattle.sctp_model.specs.receiver.DueInWords.{IsDueInWords}
use Rattle.sctp_model.specs.receiver.PieceTaken.{PieceAnswer, PieceTaken}
use Rattle.sctp_model.specs.receiver.ForwardTaken.{ForwardAnswer, ForwardTaken}
use Rattle.sctp_model.specs.receiver.SackMade.{TakeLeaves}
use Rattle.sctp_model.specs.receiver.Laws.{IsFilledOnce, IsOrdinary, IsIdle, IsSettled}
use Rattle.sctp_recv.specs.declared.receiver.Receiver.{Receiver}
use Rattle.sctp_recv.specs.StandsFor.{StandsFor}

-- a view has one cumulative index
abbrev pub CumulativeIsOne : Type 0
CumulativeIsOne = (r : ReceiverView) (c d : ℕ) → IsCumulative r c → IsCumulative r d → c ≡ d

-- a chunk taken has one answer and leaves one view
abbrev pub PieceIsOne : Type 0
PieceIsOne = (f : Format) (r : ReceiverView) (p : PieceMeaning) (a b : PieceAnswer) (t u : ReceiverView) → IsOrdinary f r →
    PieceTaken f r p a t → PieceTaken f r p b u → (a ≡ b) × (t ≡ u)

-- a FORWARD taken has one answer and leaves one view
abbrev pub ForwardIsOne : Type 0
ForwardIsOne = (f : Format) (r : ReceiverView) (x : ForwardMeaning) (a b : ForwardAnswer) (t u : ReceiverView) → IsFilledOnce f r.kept →
    ForwardTaken f r x a t → ForwardTaken f r x b u → (a ≡ b) × (t ≡ u)

-- what the walk hands over is what the words say
abbrev pub DueIsInWords : Type 0
DueIsInWords = (f : Format) (r : ReceiverView) (s n : ℕ) (ms : List Handed) (m : ℕ) → IsFilledOnce f r.kept → IsDue f r s n ms m → IsDueInWords f r s n ms m

-- the words say it of one list and one number, whatever is kept
abbrev pub WordsAreOne : Type 0
WordsAreOne = (f : Format) (r : ReceiverView) (s n : ℕ) (ms os : List Handed) (m o : ℕ) → IsDueInWords f r s n ms m → IsDueInWords f r s n os o → (ms ≡ os) × (m ≡ o)

-- where nothing is due, and no ordered chunk lies behind, giving changes nothing
abbrev pub NothingIsGiven : Type 0
NothingIsGiven = (f : Format) (n : ℕ) (r t : ReceiverView) → IsFilledOnce f r.kept → IsIdle f r → IsSettled r → GivesAll f n r t → t ≡ r

-- a chunk with data, a FORWARD, and a message that the user takes leave what is known of resets as it was
pub record ResetsStay : Type 0 where
  pub piece : (f : Format) (r : ReceiverView) (p : PieceMeaning) (a : PieceAnswer) (t : ReceiverView) → PieceTaken f r p a t → t.resets ≡ r.resets
  pub forward : (f : Format) (r : ReceiverView) (x : ForwardMeaning) (a : ForwardAnswer) (t : ReceiverView) → ForwardTaken f r x a t → t.resets ≡ r.resets
  pub take : (r : ReceiverView) (s : ℕ) (h : Option Handed) (t : ReceiverView) → TakeLeaves r s h t → t.resets ≡ r.resets

-- receivers of a format stand for ordinary views alone: each place is filled once, and by a chunk whose index was recorded
abbrev pub StandForOrdinary : (F : Type 0) → Format → Type 0
StandForOrdinary F f = (r : Receiver F) (v : ReceiverView) → StandsFor f r v → IsOrdinary f v

-- and for views alone whose recorded indexes are counts below the largest
abbrev pub StandForBounded : (F : Type 0) → Format → Type 0
StandForBounded F f = (r : Receiver F) (v : ReceiverView) → StandsFor f r v → (i : ℕ) → v.seen i ≡ true → suc i < COUNTS
