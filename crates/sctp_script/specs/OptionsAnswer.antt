-- What is answered to a line that may be one of options, in the words of its grammar.
use Rattle.std.specs.Prelude.{◌≡◌, ℕ, List, Option, Some, None}
use Rattle.sctp_model.specs.end.EndView.{Configuration}
use Rattle.sctp_words.specs.declared.line_fault.LineFault.{LineFault}
use Rattle.sctp_words.specs.declared.line_fault.LineFault.TheVariants.{BadValue}
use Rattle.sctp_script.specs.declared.option_name.Ends.{Ends}
use Rattle.sctp_events.specs.declared.two_configs.TwoConfigs.{TwoConfigs}
use Rattle.sctp_script.specs.OptionLines.{GivenOption, IsOptionsLine, LeaveBoth}

-- what was found: the line isn't one of options, or it leaves these configurations of A and B
abbrev pub FindsOptions : List ℕ → (a b : Configuration) → Option TwoConfigs → Type 0
FindsOptions line a b None = (x : Ends) (gs : List GivenOption) → IsOptionsLine line x gs → ⊥
FindsOptions line a b (Some after) = (x : Ends) × (gs : List GivenOption) × IsOptionsLine line x gs × LeaveBoth x gs a b after.a after.b

-- the fault of a line of options: it leaves no configurations
abbrev pub RefusesOptions : List ℕ → (a b : Configuration) → LineFault → Type 0
RefusesOptions line a b fault =
    (fault ≡ BadValue) × (x : Ends) × (gs : List GivenOption) × IsOptionsLine line x gs × ((c d : Configuration) → LeaveBoth x gs a b c d → ⊥)
