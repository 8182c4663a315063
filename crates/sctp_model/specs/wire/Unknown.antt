-- Types that an endpoint doesn't know: what is still processed and what is reported, by the two highest bits of the type (RFC 9260, 3.2 and 3.2.1). What an
-- endpoint does about such a chunk is defined with its other chunks; of parameters it is defined here.
use Rattle.std.specs.Prelude.{ℕ, ◌-◌, ◌/◌, ◌%◌, ◌^◌, Bool, true, false, if◌then◌else◌, ◌==◌, ◌||◌, nat_lt, List, [], ◌∷◌, Option, Some, None}
use Rattle.sctp_model.specs.wire.Typed.{Typed}

-- What is done about an unknown type: nothing after it is looked at any more, and it is reported.
pub record RuleMeaning : Type 0 where
  pub stop : Bool
  pub report : Bool

-- By the two highest bits of a type of this many bits: 00 stop; 01 stop and report; 10 skip; 11 skip and report.
abbrev pub rule_of : (bits : ℕ) → ℕ → RuleMeaning
rule_of bits kind = record { stop = nat_lt kind (2 ^ (bits - 1)); report = kind / 2 ^ (bits - 2) % 2 == 1 }

-- the rule of a chunk's type, which has 8 bits
abbrev pub chunk_rule : ℕ → RuleMeaning
chunk_rule kind = rule_of 8 kind

-- the rule of a parameter's type, which has 16 bits
abbrev pub parameter_rule : ℕ → RuleMeaning
parameter_rule kind = rule_of 16 kind

-- ---- parameters

-- State Cookie, Unrecognized Parameter, Zero Checksum Acceptable, Supported Extensions, Forward-TSN-Supported
abbrev pub is_known_parameter : ℕ → Bool
is_known_parameter kind = (kind == 7) || (kind == 8) || (kind == 32769) || (kind == 32776) || (kind == 49152)

-- both addresses, Cookie Preservative, host name, supported address types: skipped without a report
abbrev pub is_passed_over : ℕ → Bool
is_passed_over kind = (kind == 5) || (kind == 6) || (kind == 9) || (kind == 11) || (kind == 12)

-- what is acted on from a parameter on; this is acted on after it
abbrev pub acted_from : Typed → List Typed → List Typed
acted_from x later =
    if is_known_parameter x.kind then x ∷ later
    else if is_passed_over x.kind then later
    else if (parameter_rule x.kind).stop then []
    else later

-- The parameters of a chunk that are acted on: the known ones before an unknown one that stops.
abbrev pub parameters_acted_on : List Typed → List Typed
parameters_acted_on [] = []
parameters_acted_on (x ∷ xs) = acted_from x (parameters_acted_on xs)

-- this one, if its rule says so, before others
abbrev pub reported_before : {X : Type 0} → Bool → X → List X → List X
reported_before true x xs = x ∷ xs
reported_before false x xs = xs

-- what is reported from a parameter on; this is reported after it
abbrev pub reported_from : Typed → List Typed → List Typed
reported_from x later =
    if is_known_parameter x.kind || is_passed_over x.kind then later
    else reported_before (parameter_rule x.kind).report x (if (parameter_rule x.kind).stop then [] else later)

-- The parameters of a chunk that are reported, each that is repeated too, none after one that stops.
abbrev pub parameters_reported : List Typed → List Typed
parameters_reported [] = []
parameters_reported (x ∷ xs) = reported_from x (parameters_reported xs)

-- The value of the first parameter of a type among these: of a repeated one the first counts.
abbrev pub first_of : ℕ → List Typed → Option (List ℕ)
first_of kind [] = None
first_of kind (x ∷ xs) = if x.kind == kind then Some x.value else first_of kind xs
