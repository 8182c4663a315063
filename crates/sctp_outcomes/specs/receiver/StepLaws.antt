-- What is computed is what the definitions say: exactly the whole messages, what is due, and the one step of each chunk and FORWARD.
use Rattle.std.specs.Prelude.{◌≡◌, ◌↔◌, ℕ, ◌+◌, ◌≤◌, max, List, Option, Some, None}
use Rattle.sctp_model.specs.numbers.Lists.{Has, IsWithin}
use Rattle.sctp_model.specs.wire.Chunk.{PieceMeaning, SackMeaning, ForwardMeaning}
use Rattle.sctp_model.specs.messages.Format.{Format, Lane, ordered_lane}
use Rattle.sctp_model.specs.messages.Pieces.{Piece}
use Rattle.sctp_model.specs.messages.Whole.{IsWhole}
use Rattle.sctp_model.specs.receiver.ReceiverView.{Handed, ReceiverView, IsCumulative}
use Rattle.sctp_model.specs.receiver.Receiving.{IsWholeNumber, IsLowest, HasNoWhole, IsWholeWith, IsDue}
use Rattle.sctp_model.specs.receiver.Laws.{IsFilledOnce, IsOrdinary}
use Rattle.sctp_model.specs.receiver.PieceTaken.{PieceAnswer, PieceTaken, answer_to}
use Rattle.sctp_model.specs.receiver.ForwardTaken.{ForwardAnswer, ForwardTaken, forward_answer}
use Rattle.sctp_model.specs.receiver.SackMade.{AreAllRuns, IsSack}
use Rattle.sctp_outcomes.specs.receiver.Wholes.{wholes, whole_number, whole_with}
use Rattle.sctp_outcomes.specs.receiver.Steps.{IsBound, cumulative, numbers, due_from, piece_step, forward_step}
use Rattle.sctp_outcomes.specs.receiver.Runs.{all_runs}

-- the lists computed are the whole messages among kept chunks, and no others
abbrev pub WholesAreAll : Type 0
WholesAreAll = (f : Format) (kept xs : List Piece) → Has (wholes f kept) xs ↔ (IsWhole f xs × IsWithin xs kept)

-- ---- one whole message

-- the whole message of a lane and number, of several the one with the lowest first index; or that there is none
abbrev pub IsNumberFound : Format → List Piece → Lane → ℕ → Option (List Piece) → Type 0
IsNumberFound f kept l n None = HasNoWhole f kept l n
IsNumberFound f kept l n (Some xs) = IsWholeNumber f kept l n xs × IsLowest f kept l n xs

-- it is computed
abbrev pub NumberIsComputed : Type 0
NumberIsComputed = (f : Format) (kept : List Piece) (l : Lane) (n : ℕ) → IsNumberFound f kept l n (whole_number f kept l n)

-- and if kept chunks are apart there is no other
abbrev pub NumberIsOne : Type 0
NumberIsOne = (f : Format) (kept xs ys : List Piece) (l : Lane) (n : ℕ) → IsFilledOnce f kept →
    IsNumberFound f kept l n (Some xs) → IsNumberFound f kept l n (Some ys) → xs ≡ ys

-- the whole message that a chunk is one of, or that it is of none
abbrev pub IsWithFound : Format → List Piece → Piece → Option (List Piece) → Type 0
IsWithFound f kept y None = (xs : List Piece) → IsWholeWith f kept y xs → ⊥
IsWithFound f kept y (Some xs) = IsWholeWith f kept y xs

-- it is computed
abbrev pub WithIsComputed : Type 0
WithIsComputed = (f : Format) (kept : List Piece) (y : Piece) → IsWithFound f kept y (whole_with f kept y)

-- and if kept chunks are apart there is no other
abbrev pub WithIsOne : Type 0
WithIsOne = (f : Format) (kept xs ys : List Piece) (y : Piece) → IsFilledOnce f kept → IsWholeWith f kept y xs → IsWholeWith f kept y ys → xs ≡ ys

-- ---- what is due

-- from any number on, over as many at least as pass the last one kept or skipped
abbrev pub DueIsComputed : Type 0
DueIsComputed = (f : Format) (r : ReceiverView) (s depth n : ℕ) → max (r.skip (ordered_lane s)) (numbers r.kept) ≤ n + depth →
    IsDue f r s n (due_from f r.kept s (r.skip (ordered_lane s)) depth n).messages (due_from f r.kept s (r.skip (ordered_lane s)) depth n).next

-- and nothing else, if kept chunks are apart
abbrev pub DueIsOne : Type 0
DueIsOne = (f : Format) (r : ReceiverView) (s n m o : ℕ) (ms os : List Handed) → IsFilledOnce f r.kept → IsDue f r s n ms m → IsDue f r s n os o →
    (ms ≡ os) × (m ≡ o)

-- ---- steps

-- the cumulative index, of a receiver that recorded no index above a bound
abbrev pub CumulativeIsComputed : Type 0
CumulativeIsComputed = (r : ReceiverView) (bound : ℕ) → IsBound r bound → IsCumulative r (cumulative r bound)

-- each chunk can be taken, in the way that is computed
abbrev pub PiecesAreTaken : Type 0
PiecesAreTaken = (f : Format) (r : ReceiverView) (c : ℕ) (p : PieceMeaning) → IsCumulative r c →
    PieceTaken f r p (answer_to f r c p) (piece_step f r c p)

-- and in no other, if kept chunks are apart and were recorded
abbrev pub PiecesAreTakenSo : Type 0
PiecesAreTakenSo = (f : Format) (r t : ReceiverView) (c : ℕ) (p : PieceMeaning) (a : PieceAnswer) → IsOrdinary f r → IsCumulative r c →
    PieceTaken f r p a t ↔ ((a ≡ answer_to f r c p) × (t ≡ piece_step f r c p))

-- each FORWARD can be taken, in the way that is computed
abbrev pub ForwardsAreTaken : Type 0
ForwardsAreTaken = (f : Format) (r : ReceiverView) (c : ℕ) (x : ForwardMeaning) → IsCumulative r c →
    ForwardTaken f r x (forward_answer r c x) (forward_step f r c x)

-- and in no other, if kept chunks are apart
abbrev pub ForwardsAreTakenSo : Type 0
ForwardsAreTakenSo = (f : Format) (r t : ReceiverView) (c : ℕ) (x : ForwardMeaning) (a : ForwardAnswer) → IsFilledOnce f r.kept → IsCumulative r c →
    ForwardTaken f r x a t ↔ ((a ≡ forward_answer r c x) × (t ≡ forward_step f r c x))

-- the runs above the cumulative index, of a receiver that recorded no index above a bound
abbrev pub RunsAreComputed : Type 0
RunsAreComputed = (r : ReceiverView) (c bound : ℕ) → IsBound r bound → IsCumulative r c → AreAllRuns r c (all_runs r c bound)

-- a view has one SACK with at most this many gap blocks
abbrev pub SackIsOne : Type 0
SackIsOne = (most : ℕ) (r : ReceiverView) (s t : SackMeaning) → IsSack most r s → IsSack most r t → s ≡ t
