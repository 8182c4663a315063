-- The bytes of the chunks kept, by streams.
use Rattle.std.specs.Prelude.{ℕ, zero, suc, ◌+◌, List}
use Rattle.sctp_model.specs.messages.Format.{ordered_lane, unordered_lane}
use Rattle.sctp_model.specs.messages.Pieces.{Piece}
use Rattle.sctp_model.specs.receiver.ReceiverView.{size_of_pieces}
use Rattle.sctp_model.specs.receiver.KeptOfLane.{of_lane}

-- those of a stream, ordered and unordered
abbrev pub bytes_on : List Piece → ℕ → ℕ
bytes_on kept s = size_of_pieces (of_lane (ordered_lane s) kept) + size_of_pieces (of_lane (unordered_lane s) kept)

-- those of the streams below n
abbrev pub bytes_below : List Piece → ℕ → ℕ
bytes_below kept zero = 0
bytes_below kept (suc n) = bytes_below kept n + bytes_on kept n
