-- Lines: a line is bytes without the line feed. Which do nothing, and the kinds of their faults.
use Rattle.std.specs.Prelude.{◌≡◌, ℕ, List, [], ◌∷◌}
use Rattle.sctp_words.specs.declared.line_fault.TheConstants.{COMMENT}
use Rattle.sctp_words.specs.declared.line_fault.LineFault.{LineFault}
use Rattle.sctp_words.specs.declared.line_fault.LineFault.TheVariants.{TooLong, UnknownCommand, WordCount, BadValue, PairOrder}

-- an empty line, or a comment
abbrev pub IsSilent : List ℕ → Type 0
IsSilent [] = Unit {0}
IsSilent (c ∷ cs) = c ≡ COMMENT

-- the kinds of the faults
abbrev pub kind_of : LineFault → ℕ
kind_of TooLong = 1
kind_of UnknownCommand = 2
kind_of WordCount = 3
kind_of BadValue = 4
kind_of PairOrder = 5
