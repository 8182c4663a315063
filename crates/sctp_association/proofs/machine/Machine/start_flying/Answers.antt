use Rattle.std.proofs.Common.{◌∙◌, ℕ, nat_lt, Bool, ap}
use Rattle.sctp_model.specs.sender.Entries.{in_flight}
use Rattle.sctp_model.specs.end.EndView.{Alarm, DataAlarm, Timer}
use Rattle.sctp_model.specs.end.Clock.{replaced}
use Rattle.sctp_association.specs.StartsMean.{started_if}
use Rattle.sctp_association.specs.MachineStands.{MachineStands}
use Rattle.sctp_association.proofs.MachineLemmas.{with_timers}
use Rattle.sctp_association.proofs.machine.Machine.start_flying.Goals as goal

pub returns : goal.returns
unfolding MachineStands
returns c = λ v stands.
    let flies = ap (nat_lt 0) (c.in_flight-flies.ensures v stands) in
    with_timers _ v _ _ stands (c.start_fragments.ensures.put
    ∙ (ap (λ (f : Alarm → Timer). replaced DataAlarm (started_if (nat_lt 0 c.in_flight-flies.result) c.args.self.now.moment (f DataAlarm)) f) stands.timers
    ∙ (ap (λ (b : Bool). replaced DataAlarm (started_if b c.args.self.now.moment (v.timers DataAlarm)) v.timers) flies
    ∙ ap (λ (n : ℕ). replaced DataAlarm (started_if (nat_lt 0 (in_flight v.sender)) n (v.timers DataAlarm)) v.timers) stands.clock)))
