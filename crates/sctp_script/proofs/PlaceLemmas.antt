-- What is read of a line that isn't one of options is what it says at its place.
use Rattle.std.proofs.Common.{ℕ, Bool, false, List, inr, Option, None, Some, Result, Ok, Err, MatchResult}
use Rattle.sctp_model.specs.end.EndView.{Configuration}
use Rattle.sctp_words.specs.declared.line_fault.LineError.{LineError}
use Rattle.sctp_words.specs.declared.line_fault.LineError.TheVariants as error
use Rattle.sctp_script.specs.declared.placed.Placed.{Placed}
use Rattle.sctp_script.specs.Places.{Unpaired, Behind, Acted, IsPlain}
use Rattle.sctp_script.specs.PlacedAnswer.{FindsAt, RefusesAt}
use Rattle.sctp_script.specs.inner.PlainAnswer.{FindsPlain, RefusesPlain, FindsUnlimited, RefusesUnlimited, FindsPaired, RefusesPaired}

pub unpaired_says : (line : List ℕ) (r : Result (Option Placed) LineError)
    → MatchResult r (λ found. FindsPlain false line found) (λ e. RefusesPlain false line e)
    → MatchResult r (λ found. FindsAt Unpaired line found) (λ e. RefusesAt Unpaired line e)
unpaired_says line (Ok None) says = says
unpaired_says line (Ok (Some p)) says = says
unpaired_says line (Err (error.Fault f)) says = says
unpaired_says line (Err error.NoMemory) says = says

pub acted_says : (o : Bool) (line : List ℕ) (r : Result (Option Placed) LineError)
    → MatchResult r (λ found. FindsPaired o line found) (λ e. RefusesPaired o line e)
    → MatchResult r (λ found. FindsAt (Acted o) line found) (λ e. RefusesAt (Acted o) line e)
acted_says o line (Ok None) says = says
acted_says o line (Ok (Some p)) says = says
acted_says o line (Err (error.Fault f)) says = says
acted_says o line (Err error.NoMemory) says = says

pub behind_says : (o : Bool) (a b : Configuration) (line : List ℕ) (r : Result (Option Placed) LineError) → IsPlain line
    → MatchResult r (λ found. FindsPaired o line found) (λ e. RefusesPaired o line e)
    → MatchResult r (λ found. FindsAt (Behind o a b) line found) (λ e. RefusesAt (Behind o a b) line e)
behind_says o a b line (Ok None) plain says = inr (plain, says)
behind_says o a b line (Ok (Some p)) plain says = inr (plain, says)
behind_says o a b line (Err (error.Fault f)) plain says = inr (plain, says)
behind_says o a b line (Err error.NoMemory) plain says = says
