use Rattle.std.proofs.Common.{◌∙◌, sym, ap}
use Rattle.sctp_model.specs.end.EndView.{Alarm, DataAlarm, Timer}
use Rattle.sctp_association.specs.MachineStands.{MachineStands}
use Rattle.sctp_association.proofs.PassedLemmas.{settled_still, settled_wanted}
use Rattle.sctp_association.proofs.machine.Machine.is_settled.Goals as goal

pub returns-in-None : goal.returns-in-None
unfolding MachineStands
returns-in-None c = λ v stands is.
    settled_still v _ (sym stands.due.forward ∙ c.if-self.false) (c.get.ensures ∙ ap (λ (f : Alarm → Timer). f DataAlarm) stands.timers) c.in-None.is

pub returns-in-Some : goal.returns-in-Some
unfolding MachineStands
returns-in-Some c = λ v stands is.
    settled_wanted v (sym stands.due.forward ∙ c.if-self.false) (sym (c.unsettled.ensures v stands) ∙ is)
