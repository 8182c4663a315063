-- Each call of a receiver is a list of moves of its direction: a data chunk by each answer, a FORWARD by each answer, the SACK, and taking a message.
use Rattle.std.specs.Prelude.{◌≡◌, ℕ, ◌+◌, ◌<◌, ◌≤◌, ◌⊎◌, true, List, ◌∷◌, length, map, Option, Some}
use Rattle.sctp_model.specs.numbers.Limits.{WINDOW}
use Rattle.sctp_model.specs.numbers.Lists.{Has}
use Rattle.sctp_model.specs.numbers.Serial.{COUNTS, IsWithinHalf, tsn}
use Rattle.sctp_model.specs.wire.Chunk.{PieceMeaning, SackMeaning, ForwardMeaning}
use Rattle.sctp_model.specs.messages.Format.{Format, Lane, is_numbered}
use Rattle.sctp_model.specs.messages.Plan.{Message, Entry, Part, Plan, entry_at, IsOf}
use Rattle.sctp_model.specs.messages.Pieces.{Piece, piece_of}
use Rattle.sctp_model.specs.messages.Forward.{Skip, Forward}
use Rattle.sctp_model.specs.sender.SenderView.{SenderView}
use Rattle.sctp_model.specs.receiver.ReceiverView.{Handed, ReceiverView, Reaches, IsCumulative}
use Rattle.sctp_model.specs.messages.Acknowledgement.{Acknowledgement}
use Rattle.sctp_model.specs.sender.SentChunks.{piece_said, skip_said}
use Rattle.sctp_model.specs.receiver.PieceTaken.{PieceAnswer, PieceTaken}
use Rattle.sctp_model.specs.receiver.ForwardTaken.{ForwardAnswer, ForwardTaken}
use Rattle.sctp_model.specs.receiver.SackMade.{IsSack, TakeLeaves}
use Rattle.sctp_model.specs.receiver.Laws.{IsIdle}
use Rattle.sctp_safety.specs.Way.{Way, with_receiver}
use Rattle.sctp_safety.specs.Exact.{Leads}
use Rattle.sctp_safety.specs.SenderLaws.{IsUsual, IsSackOf}

-- ---- what the endpoints of a direction agree on, and how far apart counts are

-- The receiver knows the sender's first TSN and how many streams there are (RFC 9260, 3.3.2 and 3.3.3).
pub record IsJoined (w : Way) : Type 0 where
  pub initial : w.receiver.initial ≡ w.sender.initial
  pub streams : w.receiver.streams ≡ w.streams

-- The window of indexes past CUM, and no index that isn't a count: what the refusals of a sender give.
pub record IsCounted (v : SenderView) : Type 0 where
  pub window : length v.plan.entries ≤ v.cum + WINDOW
  pub counts : length v.plan.entries < COUNTS

-- An index lies less than half the space of TSNs from the cumulative one. Of SSNs and MIDs nothing is asked: the window keeps them near what they are read by.
abbrev pub IsIndexNear : ReceiverView → (index : ℕ) → Type 0
IsIndexNear r i = (c : ℕ) → IsCumulative r c → IsWithinHalf 32 i c

-- ---- what a call leaves: moves lead there, nothing is due, and the constants are as they were

-- Moves of the direction lead to the view, which waits for its next numbers, and whose constants are those from before (RFC 9260, 6.6).
pub record IsReceived (w : Way) (t : ReceiverView) : Type 0 where
  pub leads : Leads w (with_receiver w t)
  pub idle : IsIdle w.format t
  pub initial : t.initial ≡ w.receiver.initial
  pub streams : t.streams ≡ w.receiver.streams
  pub buffer : t.buffer ≡ w.receiver.buffer

-- ---- chunks of the bag, as they are on the wire

-- a data chunk whose meaning is one of the bag's
pub record IsPieceSaid (f : Format) (initial : ℕ) (ps : List Piece) (p : PieceMeaning) : Type 0 where
  pub index : ℕ
  pub lane : Lane
  pub number : ℕ
  pub fragment : ℕ
  pub message : Message
  -- the base that its number is counted from
  pub base : Lane → ℕ
  pub put : Has ps (piece_of f index lane number fragment message)
  pub same : p ≡ piece_said f initial base index (Part lane number fragment) (Some message)

-- of each lane that a FORWARD lists, the number is the largest one that has an entry up to its point
abbrev pub IsTopped : Plan → Forward → Type 0
IsTopped p x = (y : Skip) (i n : ℕ) (e : Entry) → Has x.skips y → i ≤ x.point → entry_at p i ≡ Some e → IsOf y.lane n e → n ≤ y.number

-- a FORWARD chunk that says a FORWARD of the bag
pub record IsForwardSaid (f : Format) (initial : ℕ) (p : Plan) (fs : List Forward) (m : ForwardMeaning) : Type 0 where
  pub forward : Forward
  -- the base that its numbers are counted from
  pub base : Lane → ℕ
  pub put : Has fs forward
  pub cumulative : m.cumulative ≡ tsn initial forward.point
  pub skips : m.skips ≡ map (skip_said f base) forward.skips
  pub topped : IsTopped p forward

-- ---- the base of a number (RFC 6525, 5.1.2 and 5.2.2)

-- all indexes up to this one are reached
abbrev pub AreReached : ReceiverView → (index : ℕ) → Type 0
AreReached r i = (j : ℕ) → 0 < j → j ≤ i → Reaches r j

-- A number of a lane, which a chunk for this index says: it isn't below what the chunk counts it from; and the receiver counts numbers of the lane from
-- there too, or has all up to the index, so that the chunk is old.
pub record IsBased (f : Format) (r : ReceiverView) (base : Lane → ℕ) (index : ℕ) (l : Lane) (n : ℕ) : Type 0 where
  pub low : is_numbered f l.kind ≡ true → base l ≤ n
  pub same : is_numbered f l.kind ≡ true → AreReached r index ⊎ (base l ≡ r.resets.base l)

-- so it is of all numbers that a FORWARD lists
abbrev pub AreBased : Format → ReceiverView → (base : Lane → ℕ) → Forward → Type 0
AreBased f r base x = (y : Skip) → Has x.skips y → IsBased f r base x.point y.lane y.number

-- ---- the laws

-- A data chunk that arrives while its index is near, whatever is answered.
abbrev pub PieceTakenIsMoves : Type 0
PieceTakenIsMoves = (w : Way) (p : PieceMeaning) (a : PieceAnswer) (t : ReceiverView) → IsUsual w → IsJoined w → IsCounted w.sender →
    IsIdle w.format w.receiver →
    (said : IsPieceSaid w.format w.sender.initial w.pieces p) → IsIndexNear w.receiver said.index →
    IsBased w.format w.receiver said.base said.index said.lane said.number →
    PieceTaken w.format w.receiver p a t → IsReceived w t

-- A FORWARD that arrives while its point is near, whatever is answered.
abbrev pub ForwardTakenIsMoves : Type 0
ForwardTakenIsMoves = (w : Way) (m : ForwardMeaning) (a : ForwardAnswer) (t : ReceiverView) → IsUsual w → IsJoined w → IsCounted w.sender →
    IsIdle w.format w.receiver →
    (said : IsForwardSaid w.format w.sender.initial w.sender.plan w.forwards m) → IsIndexNear w.receiver said.forward.point →
    AreBased w.format w.receiver said.base said.forward →
    ForwardTaken w.format w.receiver m a t → IsReceived w t

-- The SACK of a receiver says one that may be put between the endpoints.
pub record IsSackPut (w : Way) (s : SackMeaning) : Type 0 where
  pub sack : Acknowledgement
  pub of : IsSackOf w.receiver.initial sack s
  pub cumulative : IsCumulative w.receiver sack.cum
  pub leads : Leads w (record w { sacks = sack ∷ w.sacks })

-- A SACK that a receiver makes may be put between the endpoints (RFC 9260, 6.2).
abbrev pub SackMadeIsMoves : Type 0
SackMadeIsMoves = (w : Way) (most : ℕ) (s : SackMeaning) → IsSack most w.receiver s → IsSackPut w s

-- The user takes the first message that waits, or finds none.
abbrev pub TakeIsMoves : Type 0
TakeIsMoves = (w : Way) (s : ℕ) (h : Option Handed) (t : ReceiverView) → IsIdle w.format w.receiver → TakeLeaves w.receiver s h t → IsReceived w t
