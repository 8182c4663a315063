-- SHUTDOWN: the cumulative TSN (RFC 9260, 3.3.8).
use Rattle.std.specs.Prelude.{ℕ, ◌<◌, ◌^◌, Bool, ◌==◌, List, length}
use Rattle.sctp_model.specs.numbers.Numbers.{u32_bytes}

-- the value
abbrev pub shutdown_value : (cumulative : ℕ) → List ℕ
shutdown_value cumulative = u32_bytes cumulative

-- the layout accepts a TSN's bytes alone
abbrev pub is_shutdown_value : List ℕ → Bool
is_shutdown_value value = length value == 4

-- the TSN is within its bits
abbrev pub IsShutdown : (cumulative : ℕ) → Type 0
IsShutdown cumulative = cumulative < 2 ^ 32
