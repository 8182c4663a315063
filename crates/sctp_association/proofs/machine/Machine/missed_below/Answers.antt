use Rattle.std.proofs.Common.{◌∙◌, ap, sym}
use Rattle.sctp_model.specs.end.Wearing.{missed_below}
use Rattle.sctp_association.specs.MachineStands.{MachineStands}
use Rattle.sctp_association.proofs.CumLemmas.{no_pace, pace_there}
use Rattle.sctp_association.proofs.machine.Machine.missed_below.Goals as goal

pub returns-in-None : goal.returns-in-None
unfolding MachineStands
returns-in-None c = λ v stands. ap missed_below (sym (no_pace _ v.sender.cum _ v.pace c.in-None.is stands.pace))

pub returns-in-Some : goal.returns-in-Some
unfolding MachineStands
returns-in-Some c = λ v stands.
    let there = pace_there _ v.sender.cum _ _ v.pace c.in-Some.is stands.pace in
    c.missed_below.ensures _ v.sender.cum there.0 there.2 ∙ ap missed_below (sym there.1)
