-- What is asked of a reader by the type of a parameter alone (RFC 9260, 3.2.1).
use Rattle.std.specs.Prelude.{ℕ, Bool, not, ◌&&◌}
use Rattle.sctp_model.specs.wire.Unknown.{is_known_parameter, is_passed_over, parameter_rule}

-- processing stops at a parameter of this type
abbrev pub stops : ℕ → Bool
stops kind = not (is_known_parameter kind) && (not (is_passed_over kind) && (parameter_rule kind).stop)

-- a parameter of this type is reported
abbrev pub is_reported : ℕ → Bool
is_reported kind = not (is_known_parameter kind) && (not (is_passed_over kind) && (parameter_rule kind).report)
