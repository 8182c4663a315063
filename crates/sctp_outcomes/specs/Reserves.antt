-- A receiver that keeps a reserve never refuses the next chunk expected for want of space, if what it holds below has its place in the reserve (RFC 9260, 6.2).
use Rattle.std.specs.Prelude.{◌≡◌, ℕ, suc, ◌+◌, ◌≤◌, nat_lt, if◌then◌else◌, List, [], ◌∷◌, length, Option}
use Rattle.sctp_model.specs.wire.Chunk.{PieceMeaning}
use Rattle.sctp_model.specs.messages.Pieces.{Piece}
use Rattle.sctp_model.specs.receiver.ReceiverView.{ReceiverView, IsCumulative, size_of_waiting}
use Rattle.sctp_model.specs.receiver.Reading.{piece_at}
use Rattle.sctp_model.specs.receiver.PieceTaken.{NoRoom, answer_to}
use Rattle.sctp_model.specs.end.EndView.{EndView, format_of}
use Rattle.sctp_model.specs.world.World.{Side, World, end_of, Setup, configuration_of, start}
use Rattle.sctp_model.specs.world.Events.{Event, Outcome}
use Rattle.sctp_model.specs.world.Steps.{Run}

-- the bytes of those of these chunks that are above this index
abbrev pub bytes_above : (c : ℕ) → List Piece → ℕ
bytes_above c [] = 0
bytes_above c (x ∷ xs) = (if nat_lt c x.index then length x.bytes else 0) + bytes_above c xs

-- and of the others: parts of messages of which more is to come
abbrev pub bytes_up_to : (c : ℕ) → List Piece → ℕ
bytes_up_to c [] = 0
bytes_up_to c (x ∷ xs) = (if nat_lt c x.index then 0 else length x.bytes) + bytes_up_to c xs

-- If the messages that wait for the user, the parts that are kept up to the cumulative index, and the next chunk expected have no more bytes than the reserve
-- together, there is space for that chunk.
abbrev pub IsNextTaken : EndView → Type 0
IsNextTaken e = (c : ℕ) (p : PieceMeaning) → IsCumulative e.receiver c → (piece_at (format_of e) e.receiver c p).index ≡ suc c →
    size_of_waiting e.receiver.waiting e.receiver.streams + bytes_up_to c e.receiver.kept + length p.bytes ≤ e.receiver.reserve →
    e.receiver.reserve ≤ e.receiver.buffer → answer_to (format_of e) e.receiver c p ≡ NoRoom → ⊥

-- So it is in every world of every run, also of one that meets no premise.
abbrev pub NextIsTaken : Type 0
NextIsTaken = (s : Setup) (events : List Event) (answers : List (Option Outcome)) (w : World) → Run (start s) events answers w →
    (x : Side) → IsNextTaken (end_of w x)
