use Rattle.std.proofs.Common.{◌∙◌, true, false, ap, sym}
use Rattle.sctp_model.specs.sender.SenderView.{SenderView}
use Rattle.sctp_model.specs.sender.Abandoning.{expired}
use Rattle.sctp_model.specs.end.EndView.{Alarm, DataAlarm, Timer}
use Rattle.sctp_association.specs.TimersMean.{timer_meaning}
use Rattle.sctp_association.specs.MachineStands.{MachineStands}
use Rattle.sctp_association.proofs.MachineLemmas.{at_view}
use Rattle.sctp_association.proofs.MomentLemmas.{gives_up}
use Rattle.sctp_association.proofs.machine.Machine.give_up.Goals as goal

pub returns-else-is_due : goal.returns-else-is_due
unfolding MachineStands
returns-else-is_due c = λ v stands.
    let here = c.get.ensures ∙ ap (λ (f : Alarm → Timer). f DataAlarm) stands.timers in
    let given = gives_up v _ (timer_meaning c.get.result) false stands.clock here (sym c.is_over-is_due.ensures ∙ c.if-is_due.false) in
    at_view _ _ _ (ap (λ (s : SenderView). record v { sender = s }) given) (c.expire.ensures v stands)

pub returns-then-is_due : goal.returns-then-is_due
unfolding MachineStands
returns-then-is_due c = λ v stands.
    let here = c.get.ensures ∙ ap (λ (f : Alarm → Timer). f DataAlarm) stands.timers in
    let given = gives_up v _ (timer_meaning c.get.result) true stands.clock here (sym c.is_over-is_due.ensures ∙ c.if-is_due.true) in
    at_view _ _ _ (ap (λ (s : SenderView). record v { sender = s }) given) (c.wear.ensures (record v { sender = expired v.sender v.moment }) (c.expire.ensures v stands))
