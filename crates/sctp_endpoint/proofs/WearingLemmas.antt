-- A packet whose chunks missed nothing gives up nothing.
use Rattle.std.proofs.Common.{◌≡◌, ℕ, ◌&&◌, nat_lt, Bool, true, false, Option, None, Some, if◌then◌else◌, refl, ap, arith}
use Rattle.std.proofs.lemmas.Bool.Decides.{nat_tests}
use Rattle.sctp_model.specs.sender.Abandoning.{worn}
use Rattle.sctp_model.specs.end.Misses.{is_missed}
use Rattle.sctp_model.specs.end.Pacing.{Pace}
use Rattle.sctp_model.specs.end.EndView.{EndView}
use Rattle.sctp_model.specs.end.Closing.{hears}
use Rattle.sctp_model.specs.end.Moments.{after_abandoning}
use Rattle.sctp_model.specs.end.Wearing.{missed_below, worn_since, wearing}

not_below : (n : ℕ) → nat_lt n n ≡ false
not_below n = grind (arith, nat_tests)

-- nothing was missed since before the packet
pub none_missed : (v : EndView) → wearing (missed_below v.pace) v ≡ v
none_missed v = by v.pace
  where
    by : (o : Option Pace) → worn_since o (missed_below o) v ≡ v
    by None = refl
    by (Some p) =
        ap (λ (b : Bool). if b && hears (λ g. true) v.phase then after_abandoning v (worn (is_missed p.misses) v.sender) else v) (not_below p.misses.third)
