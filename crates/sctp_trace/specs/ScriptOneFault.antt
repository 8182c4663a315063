-- A script has one first fault.
use Rattle.std.specs.Prelude.{◌≡◌, ℕ, List}
use Rattle.sctp_words.specs.declared.line_fault.LineFault.{LineFault}
use Rattle.sctp_trace.specs.Script.{IsFaulty}

-- Of any two first faults of a text, its last line counted, each is the other, on the same line.
abbrev pub HasOneFault : List ℕ → Type 0
HasOneFault text =
    (m n : ℕ) (fault other : LineFault) (v w : List ℕ) → IsFaulty (Unit {0}) text m fault v → IsFaulty (Unit {0}) text n other w
    → (m ≡ n) × (fault ≡ other)
