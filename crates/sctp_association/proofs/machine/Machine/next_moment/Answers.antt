use Rattle.std.proofs.Common.{◌∙◌, ℕ, ap}
use Rattle.std.specs.Prelude.{Option}
use Rattle.sctp_model.specs.end.EndView.{Alarm, Timer}
use Rattle.sctp_model.specs.end.Moments.{earlier, earliest, all_alarms}
use Rattle.sctp_association.specs.MachineStands.{MachineStands}
use Rattle.sctp_association.proofs.machine.Machine.next_moment.Goals as goal

pub returns : goal.returns
unfolding MachineStands
returns c = λ v stands.
    c.earlier.ensures
    ∙ (ap (λ (n : Option ℕ). earlier n c.args.self.now.delayed) (c.next_moment.ensures ∙ ap (λ (f : Alarm → Timer). earliest f all_alarms) stands.timers)
    ∙ ap (λ (n : Option ℕ). earlier (earliest v.timers all_alarms) n) stands.delayed)
