-- What is written for the lines of a text is there, and what first lines write is a beginning of it.
use Rattle.std.specs.Prelude.{◌≡◌, ℕ, List, ◌++◌}
use Rattle.sctp_trace.specs.Stages.{Stage}
use Rattle.sctp_trace.specs.Script.{IsFront, IsLines}

-- Whatever first lines of a text wrote, LINES of it begins so.
abbrev pub LinesAreThere : Type 0
LinesAreThere = (text : List ℕ) (front : List (List ℕ)) (rest written : List ℕ) (stage : Stage) → IsFront text front rest written stage
    → (lines more : List ℕ) × IsLines text lines × (lines ≡ written ++ more)
