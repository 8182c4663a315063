-- Each call of a sender is a list of moves of its direction: what a packet is filled with, abandoning, time, the data timer, a SACK, a SHUTDOWN.
use Rattle.std.specs.Prelude.{◌≡◌, ℕ, ◌<◌, ◌≤◌, true, List, [], ◌∷◌, ◌++◌, length, None, Some, Bool}
use Rattle.sctp_model.specs.numbers.Lists.{Has, at}
use Rattle.sctp_model.specs.numbers.Serial.{IsWithinHalf, tsn}
use Rattle.sctp_model.specs.wire.Chunk.{SackMeaning}
use Rattle.sctp_model.specs.messages.Format.{Format, Lane}
use Rattle.sctp_model.specs.messages.Plan.{Message, Part, End, Plan, entry_at, message_at}
use Rattle.sctp_model.specs.messages.Pieces.{Piece, piece_of}
use Rattle.sctp_model.specs.sender.SenderView.{SenderView}
use Rattle.sctp_model.specs.messages.Acknowledgement.{Acknowledgement}
use Rattle.sctp_model.specs.world.Calls.{Call}
use Rattle.sctp_model.specs.sender.Queueing.{refusal, queued}
use Rattle.sctp_model.specs.sender.Filling.{Wish, IsFill}
use Rattle.sctp_model.specs.sender.SackTaken.{sack_fault, sack_taken, shutdown_fault, shutdown_taken}
use Rattle.sctp_model.specs.sender.Abandoning.{abandon_after, expired, worn, marking}
use Rattle.sctp_safety.specs.Way.{Way, with_sender, IsStart}
use Rattle.sctp_safety.specs.Exact.{Leads}

-- ---- what a sender's view keeps, and moves don't speak of

-- a fragment is at the index
abbrev pub HasPart : Plan → ℕ → Type 0
HasPart p i = (l : Lane) × (n : ℕ) × (k : ℕ) × (entry_at p i ≡ Some (Part l n k))

-- An end mark is after every fragment of its message, what is marked for retransmission is a fragment, and each ticket is of an accepted call.
pub record IsSenderOrderly (w : Way) : Type 0 where
  pub ends : (i j : ℕ) (l : Lane) (n k : ℕ) → entry_at w.sender.plan i ≡ Some (Part l n k) → entry_at w.sender.plan j ≡ Some (End l n) → i < j
  pub marked : (i : ℕ) → w.sender.marked i ≡ true → HasPart w.sender.plan i
  pub tickets : w.sender.tickets ≡ length w.asked.calls

-- the constants of a sender
pub record HasConstants (v u : SenderView) : Type 0 where
  pub initial : u.initial ≡ v.initial
  pub streams : u.streams ≡ v.streams
  pub fragment : u.fragment ≡ v.fragment
  pub partial : u.partial ≡ v.partial

-- A way that moves lead to from a start, with a sender in order.
pub record IsUsual (w : Way) : Type 0 where
  pub origin : Way
  pub started : IsStart origin
  pub led : Leads origin w
  pub order : IsSenderOrderly w

-- What a call of the sender leaves: moves lead there, and it is in order still, with its constants.
pub record IsMoved (w v : Way) : Type 0 where
  pub leads : Leads w v
  pub order : IsSenderOrderly v
  pub constants : HasConstants w.sender v.sender

-- ---- filling

-- the fragment of a wish, and that its chunk was put between the endpoints
pub record IsPut (f : Format) (ps : List Piece) (x : Wish) : Type 0 where
  pub lane : Lane
  pub number : ℕ
  pub fragment : ℕ
  pub message : Message
  pub here : entry_at x.view.plan x.index ≡ Some (Part lane number fragment)
  pub named : message_at x.view.plan lane number ≡ Some message
  pub put : Has ps (piece_of f x.index lane number fragment message)

-- what a packet's fragments leave
pub record IsFilled (w : Way) (xs : List Wish) (u : SenderView) : Type 0 where
  pub pieces : List Piece
  pub moved : IsMoved w (record w { sender = u; pieces = pieces })
  pub same : (x : Wish) → Has xs x → x.view.initial ≡ w.sender.initial
  pub puts : (x : Wish) → Has xs x → IsPut w.format pieces x
  pub still : (y : Piece) → Has w.pieces y → Has pieces y

-- FILL is moves, under both formats: each fragment takes its index and goes out.
abbrev pub FillIsMoves : Type 0
FillIsMoves = (w : Way) (room : ℕ) (xs : List Wish) (u : SenderView) → IsUsual w → IsFill w.format w.sender room xs u → IsFilled w xs u

-- ---- the user

-- A message that is accepted is the move of a call.
abbrev pub QueueIsMoves : Type 0
QueueIsMoves = (w : Way) (c : Call) → IsUsual w → 0 < w.sender.fragment → w.sender.streams ≡ w.streams → refusal w.sender c.lane.stream c.bytes ≡ None →
    IsMoved w (record w { sender = queued w.sender c.lane c.payload c.bytes c.until c.limit; asked = record w.asked { calls = w.asked.calls ++ c ∷ [] } })

-- A ticket that is abandoned is named, and its message withdrawn or given up.
abbrev pub AbandonIsMoves : Type 0
AbandonIsMoves = (w : Way) (t : ℕ) → IsUsual w →
    IsMoved w (record w { sender = abandon_after w.sender t; asked = record w.asked { named = at w.asked.named t true } })

-- What is past its time, at a time that the clock has reached, is given up by moves.
abbrev pub ExpireIsMoves : Type 0
ExpireIsMoves = (w : Way) (now : ℕ) → IsUsual w → now ≤ w.asked.clock → IsMoved w (with_sender w (expired w.sender now))

-- Messages that were retransmitted as often as they may be are abandoned by moves, whichever indexes pass.
abbrev pub WearIsMoves : Type 0
WearIsMoves = (w : Way) (test : ℕ → Bool) → IsUsual w → IsMoved w (with_sender w (worn test w.sender))

-- Indexes are marked for retransmission by a move, when the data timer expires and when they were missed.
abbrev pub MarkingIsMoves : Type 0
MarkingIsMoves = (w : Way) (test : ℕ → Bool) → IsUsual w → IsMoved w (with_sender w (marking w.sender test))

-- ---- what acknowledges

-- The SACK on the wire is this one: its TSN and its blocks.
pub record IsSackOf (initial : ℕ) (a : Acknowledgement) (s : SackMeaning) : Type 0 where
  pub cumulative : s.cumulative ≡ tsn initial a.cum
  pub blocks : s.blocks ≡ a.blocks

-- A SACK of the bag that is taken is moves, as long as its cumulative index lies less than half the space of TSNs from CUM.
abbrev pub SackIsMoves : Type 0
SackIsMoves = (w : Way) (a : Acknowledgement) (s : SackMeaning) → IsUsual w → Has w.sacks a → IsSackOf w.sender.initial a s →
    IsWithinHalf 32 a.cum w.sender.cum → sack_fault w.sender s ≡ None → IsMoved w (with_sender w (sack_taken w.sender s))

-- and so is the cumulative TSN of a SHUTDOWN
abbrev pub ShutdownIsMoves : Type 0
ShutdownIsMoves = (w : Way) (c : ℕ) → IsUsual w → Has w.shutdowns c → IsWithinHalf 32 c w.sender.cum →
    shutdown_fault w.sender (tsn w.sender.initial c) ≡ None → IsMoved w (with_sender w (shutdown_taken w.sender (tsn w.sender.initial c)))
