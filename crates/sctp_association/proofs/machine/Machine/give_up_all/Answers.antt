use Rattle.std.proofs.Common.{◌∙◌, nat_lt, refl, sym}
use Rattle.sctp_model.specs.sender.Abandoning.{worn}
use Rattle.sctp_model.specs.end.Misses.{is_missed}
use Rattle.sctp_model.specs.end.Wearing.{missed_below}
use Rattle.sctp_association.specs.MachineStands.{MachineStands}
use Rattle.sctp_association.proofs.MachineLemmas.{at_view}
use Rattle.sctp_association.proofs.MissedLemmas.{wears_not, wears, off_right, missed_since}
use Rattle.sctp_association.proofs.machine.Machine.give_up_all.Goals as goal

pub returns-then-not-is_open : goal.returns-then-not-is_open
unfolding MachineStands
returns-then-not-is_open c = λ v from stands is.
    let shut = sym (c.is_open.ensures v stands) ∙ c.if-not-is_open.true in
    at_view _ _ _ (wears_not from v _ _ refl refl (off_right (nat_lt from (missed_below v.pace)) _ shut)) stands

pub returns : goal.returns
unfolding MachineStands
returns c = λ v from stands is.
    let some = missed_since v.pace from is in
    let opens = sym (c.is_open.ensures v stands) ∙ c.if-not-is_open.false in
    at_view _ _ _ (wears from v some.0 some.1 some.2 opens)
    (c.when_abandoned.ensures v (worn (is_missed some.0.misses) v.sender) (c.wear_missed.ensures v some.0 stands some.1) (c.point-before.ensures v stands))
