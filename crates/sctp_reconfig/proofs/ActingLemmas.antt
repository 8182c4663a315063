-- An endpoint does with parameters what is defined for what is read.
use Rattle.std.proofs.Common.{◌≡◌, ℕ, Bool, true, false, List, [], ◌∷◌, map, refl, ap, ◌∙◌, drop}
use Rattle.std.specs.Prelude.{if◌then◌else◌, Option, Some, None, option_map, unwrap_or}
use Rattle.sctp_model.specs.numbers.Numbers.{u32_at}
use Rattle.sctp_model.specs.wire.Typed.{Typed, typed_of, typed_in}
use Rattle.sctp_model.specs.wire.Reconfig.{OUTGOING_RESET, RECONFIG_RESPONSE, reset_read, is_parameter, is_other_request}
use Rattle.sctp_model.specs.end.EndView.{EndView}
use Rattle.sctp_model.specs.end.Reconfiguring.{request_heard, response_heard, other_heard, parameter_heard, parameters_heard}
use Rattle.sctp_reconfig.specs.Reading.{ResetRequested, Responded, OtherRequested, Ignored, parameter_read, parameters_of}
use Rattle.sctp_reconfig.specs.Laws.{heard, all_heard}

-- one parameter, by which tests hold
chosen : (c : ℕ) (e : EndView) (x : Typed) (reset response other : Bool)
    → (if reset then request_heard c e (reset_read x)
    else if response then response_heard e (u32_at x.value) (u32_at (drop 4 x.value))
    else if other then other_heard e (u32_at x.value)
    else e)
    ≡ heard c e (if reset then ResetRequested (reset_read x)
    else if response then Responded (u32_at x.value) (u32_at (drop 4 x.value))
    else if other then OtherRequested (u32_at x.value)
    else Ignored)
chosen c e x true response other = refl
chosen c e x false true other = refl
chosen c e x false false true = refl
chosen c e x false false false = refl

one_acts : (c : ℕ) (e : EndView) (x : Typed) → parameter_heard c e x ≡ heard c e (parameter_read x)
one_acts c e x = chosen c e x (is_parameter OUTGOING_RESET 12 x) (is_parameter RECONFIG_RESPONSE 8 x) (is_other_request x)

all_act : (c : ℕ) (e : EndView) (items : List Typed) → parameters_heard c e items ≡ all_heard c e (map parameter_read items)
all_act c e [] = refl
all_act c e (x ∷ xs) = all_act c (parameter_heard c e x) xs ∙ ap (λ (d : EndView). all_heard c d (map parameter_read xs)) (one_acts c e x)

-- what is read of a list that isn't there is nothing
read_of : (o : Option (List Typed)) → map parameter_read (unwrap_or o []) ≡ unwrap_or (option_map (map parameter_read) o) []
read_of None = refl
read_of (Some items) = refl

pub value_acts : (c : ℕ) (e : EndView) (value : List ℕ) → parameters_heard c e (typed_in value) ≡ all_heard c e (unwrap_or (parameters_of value) [])
value_acts c e value = all_act c e (typed_in value) ∙ ap (all_heard c e) (read_of (typed_of value))
