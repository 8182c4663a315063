-- The flags of a chunk's header, a bit each (RFC 9260, 3.2).
use Rattle.std.specs.Prelude.{ℕ, Bool, not, if◌then◌else◌, ◌==◌, bit_and}

-- a flag's bit where it is set
abbrev pub flag : ℕ → Bool → ℕ
flag bit set = if set then bit else 0

-- a flag of a header
abbrev pub has_flag : ℕ → ℕ → Bool
has_flag flags bit = not (bit_and flags bit == 0)
