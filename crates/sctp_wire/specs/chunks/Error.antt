-- ERROR: causes (RFC 9260, 3.3.10).
use Rattle.std.specs.Prelude.{ℕ, Bool, List}
use Rattle.sctp_model.specs.wire.Typed.{are_typed}

-- the value is the bytes of the causes
abbrev pub error_value : (causes : List ℕ) → List ℕ
error_value causes = causes

-- which must be a list
abbrev pub has_error_list : List ℕ → Bool
has_error_list value = are_typed value
