use Rattle.std.proofs.Common.{◌∙◌, sym}
use Rattle.sctp_model.specs.sender.Abandoning.{abandon_after}
use Rattle.sctp_association.specs.MachineStands.{MachineStands}
use Rattle.sctp_association.proofs.MachineLemmas.{at_view}
use Rattle.sctp_association.proofs.CallLemmas.{abandoned_by}
use Rattle.sctp_association.proofs.machine.Machine.abandon.Goals as goal

pub returns-then-not-is_open-clause-answer : goal.returns-then-not-is_open-clause-answer
returns-then-not-is_open-clause-answer c = λ v stands. c.abandon_one-answer.ensures.answer v stands

pub returns-then-not-is_open-clause-step : goal.returns-then-not-is_open-clause-step
unfolding MachineStands
returns-then-not-is_open-clause-step c = λ v stands.
    let gone = c.abandon_one-answer.ensures.step v stands in
    at_view _ _ _ (abandoned_by v c.args.ticket.0 _ (sym (c.is_open.ensures _ gone) ∙ c.if-not-is_open.true)) gone

pub returns-clause-answer : goal.returns-clause-answer
returns-clause-answer c = λ v stands. c.abandon_one-answer.ensures.answer v stands

pub returns-clause-step : goal.returns-clause-step
unfolding MachineStands
returns-clause-step c = λ v stands.
    let gone = c.abandon_one-answer.ensures.step v stands in
    at_view _ _ _ (abandoned_by v c.args.ticket.0 _ (sym (c.is_open.ensures _ gone) ∙ c.if-not-is_open.false))
    (c.when_abandoned.ensures v (abandon_after v.sender c.args.ticket.0) gone (c.point-before.ensures v stands))
