-- The theorem: whatever moves there are, from a start, the direction is safe.
use Rattle.std.specs.Prelude.{List}
use Rattle.sctp_model.specs.messages.Orderly.{Orderly}
use Rattle.sctp_model.specs.world.Safe.{Safe}
use Rattle.sctp_safety.specs.Way.{Way, Move, IsStart, Run}

-- Every world that a list of moves leads to from a start is safe.
abbrev pub SafeAlways : Type 0
SafeAlways = (w v : Way) (moves : List Move) → IsStart w → Run w moves v → Safe v.format v.sender v.receiver v.asked

-- And its plan is orderly.
abbrev pub OrderlyAlways : Type 0
OrderlyAlways = (w v : Way) (moves : List Move) → IsStart w → Run w moves v → Orderly v.format v.sender.plan
