-- What is kept of one stream and kind.
use Rattle.std.specs.Prelude.{List, filter}
use Rattle.sctp_model.specs.messages.Format.{Lane, same_lane}
use Rattle.sctp_model.specs.messages.Pieces.{Piece}

-- the chunks of a lane, in the order in which they are kept
abbrev pub of_lane : Lane → List Piece → List Piece
of_lane l kept = filter (λ (x : Piece). same_lane x.lane l) kept
