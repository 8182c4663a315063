use Rattle.std.proofs.Common.{true, arith, refl}
use Rattle.sctp_model.specs.end.Closing.{hears}
use Rattle.sctp_model.specs.end.Wearing.{missed_below}
use Rattle.sctp_association.specs.MachineStands.{MachineStands}
use Rattle.sctp_association.proofs.MachineLemmas.{at_view}
use Rattle.sctp_association.proofs.MissedLemmas.{wears_not, off_left, none_since}
use Rattle.sctp_association.proofs.machine.Machine.give_up_missed.Goals as goal

pub returns-then-missed_below-from : goal.returns-then-missed_below-from
unfolding MachineStands
returns-then-missed_below-from c = λ v stands.
    let below = c.missed_below.ensures v stands in
    let none = none_since c.args.from (missed_below v.pace) (omega (arith, below)) in
    at_view _ _ _ (wears_not c.args.from v _ _ none refl (off_left _ (hears (λ g. true) v.phase) refl)) stands

pub returns-then-spares : goal.returns-then-spares
unfolding MachineStands
returns-then-spares c = λ v stands. at_view _ _ _ (c.spares.ensures v stands c.if-spares.true c.args.from) stands

pub returns : goal.returns
returns c = λ v stands. let below = c.missed_below.ensures v stands in c.give_up_all.ensures v c.args.from stands (omega (arith, below))
