use Rattle.std.proofs.Common.{◌∙◌, ap, sym, true}
use Rattle.sctp_model.specs.end.UserCalls.{shutdown_answer}
use Rattle.sctp_association.specs.MachineStands.{MachineStands}
use Rattle.sctp_association.proofs.MachineLemmas.{at_view}
use Rattle.sctp_association.proofs.CallLemmas.{shuts_not, shut_not, shut_begun, shut_first}
use Rattle.sctp_association.proofs.machine.Machine.shutdown.Goals as goal

pub returns-in_default-clause-answer : goal.returns-in_default-clause-answer
returns-in_default-clause-answer c = λ v stands. shuts_not v.phase (c.in_default.ensures v stands (λ g. true))

pub returns-in_default-clause-step : goal.returns-in_default-clause-step
unfolding MachineStands
returns-in_default-clause-step c = λ v stands. at_view _ _ _ (shut_not v.phase v (c.in_default.ensures v stands (λ g. true))) stands

pub returns-then-not-is_established-clause-answer : goal.returns-then-not-is_established-clause-answer
returns-then-not-is_established-clause-answer c = λ v stands. sym (ap shutdown_answer (c.in-Some.ensures v stands))

pub returns-then-not-is_established-clause-step : goal.returns-then-not-is_established-clause-step
unfolding MachineStands
returns-then-not-is_established-clause-step c = λ v stands.
    at_view _ _ _ (shut_begun v _ _ (c.in-Some.ensures v stands) (sym c.is_established.ensures.established ∙ c.if-not-is_established.true)) stands

pub returns-clause-answer : goal.returns-clause-answer
returns-clause-answer c = λ v stands. sym (ap shutdown_answer (c.in-Some.ensures v stands))

pub returns-clause-step : goal.returns-clause-step
unfolding MachineStands
returns-clause-step c = λ v stands.
    let phase = c.in-Some.ensures v stands in
    at_view _ _ _ (shut_first v _ _ phase (sym c.is_established.ensures.established ∙ c.if-not-is_established.false)) (c.advance_closing.ensures _ (c.turn.ensures v _ _ stands phase))
