use Rattle.std.proofs.Common.{◌≡◌, suc, true, subst, arith}
use Rattle.std.proofs.lemmas.Bool.Decides.{nat_tests}
use Rattle.sctp_recv.specs.Runs.{lies_below, AllBelow}
use Rattle.sctp_recv.proofs.RunPlaces.{all_below}
use Rattle.sctp_recv.proofs.runs.reaching.Goals as goal

pub returns-then-run-saturating_sub-clause-run : goal.returns-then-run-saturating_sub-clause-run
returns-then-run-saturating_sub-clause-run c = λ spaced.
    let runs = c.args.runs.now.items in
    let k = c.in_ok-checked_sub.field-0 in
    let next : suc k ≡ c.args.at = omega (arith, c.in_ok-checked_sub.ensures) in
    let low : lies_below c.args.index c.get-run.result.now ≡ true = let less = c.if-run-saturating_sub.true in let before = c.saturating_sub.ensures in grind (arith, less, before, nat_tests) in
    subst (AllBelow c.args.index runs) next (all_below runs c.args.index k c.get-run.result.now spaced (omega (arith, next, c.requires)) c.get-run.ensures low)
