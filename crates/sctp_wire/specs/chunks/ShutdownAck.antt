-- SHUTDOWN ACK: a header alone (RFC 9260, 3.3.9).
use Rattle.std.specs.Prelude.{ℕ, Bool, ◌==◌, List, length}

-- the layout accepts no value
abbrev pub is_shutdown_ack_value : List ℕ → Bool
is_shutdown_ack_value value = length value == 0
