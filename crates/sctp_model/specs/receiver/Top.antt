-- TOP: the largest unordered number of a stream that was recorded or skipped. Its next MIDs are read near it (RFC 8260, 2.1).
use Rattle.std.specs.Prelude.{ℕ, ◌-◌, max, List, [], ◌∷◌, Option, None, Some, if◌then◌else◌}
use Rattle.sctp_model.specs.messages.Format.{Lane, same_lane, unordered_lane}
use Rattle.sctp_model.specs.messages.Pieces.{Piece}
use Rattle.sctp_model.specs.receiver.ReceiverView.{Handed, ReceiverView, handed}

-- the number of a chunk or message of lane k, if that is the lane l and there is a number; 0 else
abbrev pub number_on : (l k : Lane) → Option ℕ → ℕ
number_on l k None = 0
number_on l k (Some n) = if same_lane k l then n else 0

-- the largest number of a lane among chunks, 0 if there is none
abbrev pub largest_kept : Lane → List Piece → ℕ
largest_kept l [] = 0
largest_kept l (x ∷ xs) = max (number_on l x.lane x.number) (largest_kept l xs)

-- the largest number of a lane among messages, 0 if there is none
abbrev pub largest_handed : Lane → List Handed → ℕ
largest_handed l [] = 0
largest_handed l (h ∷ hs) = max (number_on l h.lane h.number) (largest_handed l hs)

-- TOP of a stream, 0 if there is none: a chunk with a number is kept until its message is delivered or skipped, so these three have all that was recorded.
abbrev pub top : ReceiverView → (stream : ℕ) → ℕ
top r s = max (r.skip (unordered_lane s) - 1) (max (largest_kept (unordered_lane s) r.kept) (largest_handed (unordered_lane s) (handed r s)))
