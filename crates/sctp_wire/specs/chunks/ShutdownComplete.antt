-- SHUTDOWN COMPLETE: a header alone, with the flag T as ABORT has it (RFC 9260, 3.3.13).
use Rattle.std.specs.Prelude.{ℕ, Bool, ◌==◌, List, length}

-- the layout accepts no value
abbrev pub is_shutdown_complete_value : List ℕ → Bool
is_shutdown_complete_value value = length value == 0
