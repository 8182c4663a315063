-- What the parameters of a RE-CONFIG say (RFC 6525, 4).
use Rattle.std.specs.Prelude.{ℕ, ◌≤◌, if◌then◌else◌, List, length, drop, map, Option, option_map}
use Rattle.std.specs.List.{AllByRecursion}
use Rattle.sctp_model.specs.numbers.Numbers.{u32_at}
use Rattle.sctp_model.specs.wire.Typed.{Typed, typed_of}
use Rattle.sctp_model.specs.wire.Reconfig.{OUTGOING_RESET, RECONFIG_RESPONSE, ResetMeaning, reset_read, is_parameter, is_other_request}

-- A parameter, without where it lies in memory.
pub data ParameterMeaning : Type 0 where
  -- an Outgoing SSN Reset Request (4.1)
  ResetRequested : (request : ResetMeaning) → ParameterMeaning
  -- a Re-configuration Response: to which request, and its result (4.4)
  Responded : (number code : ℕ) → ParameterMeaning
  -- a request of another kind (4.2, 4.3, 4.5 and 4.6)
  OtherRequested : (number : ℕ) → ParameterMeaning
  -- any other type, or too short for its type
  Ignored : ParameterMeaning

-- what a parameter says
abbrev pub parameter_read : Typed → ParameterMeaning
parameter_read x =
    if is_parameter OUTGOING_RESET 12 x then ResetRequested (reset_read x)
    else if is_parameter RECONFIG_RESPONSE 8 x then Responded (u32_at x.value) (u32_at (drop 4 x.value))
    else if is_other_request x then OtherRequested (u32_at x.value)
    else Ignored

-- what all parameters of a RE-CONFIG with this value say, if it is a list of parameters (3.1)
abbrev pub parameters_of : List ℕ → Option (List ParameterMeaning)
parameters_of value = option_map (map parameter_read) (typed_of value)

-- a request to reset streams lists at most so many
abbrev pub ListsAtMost : ℕ → ParameterMeaning → Type 0
ListsAtMost n (ResetRequested m) = length m.streams ≤ n
ListsAtMost n (Responded number code) = Unit {0}
ListsAtMost n (OtherRequested number) = Unit {0}
ListsAtMost n Ignored = Unit {0}

-- each does
abbrev pub ListAtMost : ℕ → List ParameterMeaning → Type 0
ListAtMost n ps = AllByRecursion (ListsAtMost n) ps
