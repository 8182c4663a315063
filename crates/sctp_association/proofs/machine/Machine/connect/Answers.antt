use Rattle.std.proofs.Common.{◌∙◌, true, false, sym}
use Rattle.sctp_model.specs.end.Clock.{at_moment}
use Rattle.sctp_association.specs.MachineStands.{MachineStands}
use Rattle.sctp_association.proofs.MachineLemmas.{with_clock}
use Rattle.sctp_association.proofs.CallLemmas.{idle_answer, called_stands}
use Rattle.sctp_association.proofs.machine.Machine.connect.Goals as goal

pub returns-then-not-is_idle-clause-answer : goal.returns-then-not-is_idle-clause-answer
unfolding MachineStands
returns-then-not-is_idle-clause-answer c = λ v stands. idle_answer c.args.self.now v false c.is_idle.result stands c.is_idle.ensures c.if-not-is_idle.true

pub returns-then-not-is_idle-clause-step : goal.returns-then-not-is_idle-clause-step
returns-then-not-is_idle-clause-step c = λ v stands. stands

pub returns-clause-answer : goal.returns-clause-answer
unfolding MachineStands
returns-clause-answer c = λ v stands. idle_answer c.args.self.now v true c.is_idle.result stands c.is_idle.ensures c.if-not-is_idle.false

pub returns-clause-step : goal.returns-clause-step
unfolding MachineStands
returns-clause-step c = λ v stands.
    let now = with_clock _ v _ c.args.now stands c.max-self.ensures in
    rw c.replace.ensures.after (called_stands _ (at_moment v c.args.now) c.args.draw _ _ now (sym c.is_idle.ensures ∙ c.if-not-is_idle.false) (c.call.ensures v.due c.args.draw now.due) (c.call_timers.ensures c.args.draw))
