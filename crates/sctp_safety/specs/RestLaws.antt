-- A receiver's calls leave its view at rest; and from a view at rest the short forms of its definitions say what the full ones would.
use Rattle.std.specs.Prelude.{◌≡◌, ◌↔◌, ℕ, Option}
use Rattle.sctp_model.specs.wire.Chunk.{PieceMeaning, ForwardMeaning}
use Rattle.sctp_model.specs.messages.Format.{Format}
use Rattle.sctp_model.specs.receiver.ReceiverView.{Handed, ReceiverView, fresh_receiver}
use Rattle.sctp_model.specs.receiver.Receiving.{LetsGo, GivesAll}
use Rattle.sctp_model.specs.receiver.PieceTaken.{PieceAnswer, PieceTaken}
use Rattle.sctp_model.specs.receiver.ForwardTaken.{ForwardAnswer, jumped, forwarded, ForwardTaken}
use Rattle.sctp_model.specs.receiver.SackMade.{sack_sent, TakeLeaves}
use Rattle.sctp_model.specs.receiver.Laws.{IsAtRest, FitsBuffer}

-- ---- every call leaves rest

-- a new receiver is at rest
abbrev pub NewIsAtRest : Type 0
NewIsAtRest = (f : Format) (initial streams buffer reserve : ℕ) → IsAtRest f (fresh_receiver initial streams buffer reserve)

-- a chunk leaves it, whatever it says and whatever is answered
abbrev pub PieceLeavesRest : Type 0
PieceLeavesRest = (f : Format) (r : ReceiverView) (p : PieceMeaning) (a : PieceAnswer) (t : ReceiverView) → IsAtRest f r → PieceTaken f r p a t → IsAtRest f t

-- and so does a FORWARD
abbrev pub ForwardLeavesRest : Type 0
ForwardLeavesRest = (f : Format) (r : ReceiverView) (x : ForwardMeaning) (a : ForwardAnswer) (t : ReceiverView) → IsAtRest f r → ForwardTaken f r x a t →
    IsAtRest f t

-- and the user who takes a message, or finds none
abbrev pub TakeLeavesRest : Type 0
TakeLeavesRest = (f : Format) (r : ReceiverView) (s : ℕ) (h : Option Handed) (t : ReceiverView) → IsAtRest f r → TakeLeaves r s h t → IsAtRest f t

-- and a SACK that was sent
abbrev pub SentLeavesRest : Type 0
SentLeavesRest = (f : Format) (r : ReceiverView) → IsAtRest f r → IsAtRest f (sack_sent r)

-- ---- no call passes the buffer, whatever the peer sends

-- a new receiver holds nothing
abbrev pub NewFits : Type 0
NewFits = (initial streams buffer reserve : ℕ) → FitsBuffer (fresh_receiver initial streams buffer reserve)

-- a chunk is taken if it fits, and delivery needs no space
abbrev pub PieceFits : Type 0
PieceFits = (f : Format) (r : ReceiverView) (p : PieceMeaning) (a : PieceAnswer) (t : ReceiverView) → FitsBuffer r → PieceTaken f r p a t → FitsBuffer t

-- nor does a FORWARD
abbrev pub ForwardFits : Type 0
ForwardFits = (f : Format) (r : ReceiverView) (x : ForwardMeaning) (a : ForwardAnswer) (t : ReceiverView) → FitsBuffer r → ForwardTaken f r x a t → FitsBuffer t

-- nor the user
abbrev pub TakeFits : Type 0
TakeFits = (r : ReceiverView) (s : ℕ) (h : Option Handed) (t : ReceiverView) → FitsBuffer r → TakeLeaves r s h t → FitsBuffer t

-- nor a SACK
abbrev pub SentFits : Type 0
SentFits = (r : ReceiverView) → FitsBuffer r → FitsBuffer (sack_sent r)

-- ---- short forms

-- After a chunk nothing more is due on any number of streams: so giving after the row Taken alone is giving after every row (RFC 9260, 6.6).
abbrev pub NothingMoreIsDue : Type 0
NothingMoreIsDue = (f : Format) (r : ReceiverView) (p : PieceMeaning) (a : PieceAnswer) (t u : ReceiverView) (n : ℕ) → IsAtRest f r →
    PieceTaken f r p a t → GivesAll f n t u → u ≡ t

-- What a FORWARD lets go by a plain test is, at rest, just what isn't whole of what it passes (RFC 3758, 3.6; RFC 8260, 2.3.1).
abbrev pub FilterIsWords : Type 0
FilterIsWords = (f : Format) (r : ReceiverView) (c : ℕ) (x : ForwardMeaning) (t : ReceiverView) → IsAtRest f r →
    LetsGo f (jumped f r c x) t ↔ (t ≡ forwarded f r c x)
