-- HEARTBEAT and HEARTBEAT ACK: any bytes, which the answer repeats (RFC 9260, 3.3.5 and 3.3.6).
use Rattle.std.specs.Prelude.{ℕ, List}

-- the value is the information, whatever it is
abbrev pub heartbeat_value : (info : List ℕ) → List ℕ
heartbeat_value info = info
