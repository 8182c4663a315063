use Rattle.sctp_model.specs.sender.SackTaken.{shutdown_taken}
use Rattle.sctp_model.specs.end.EndView.{EndView}
use Rattle.sctp_model.specs.end.Clock.{settled}
use Rattle.sctp_send.specs.SenderAnswers.{fault_meaning}
use Rattle.sctp_association.specs.MachineStands.{MachineStands}
use Rattle.sctp_association.proofs.MachineLemmas.{at_view}
use Rattle.sctp_association.proofs.HearingLemmas.{shutdown_counts, shutdown_left, moved_as}
use Rattle.sctp_association.proofs.machine.Machine.count_shutdown.Goals as goal

pub returns-in-Ok-clause-answer : goal.returns-in-Ok-clause-answer
returns-in-Ok-clause-answer c = λ v t g stands phase. c.in-Ok.ensures.answer v t g stands phase

pub returns-in-Ok-clause-step : goal.returns-in-Ok-clause-step
unfolding MachineStands
returns-in-Ok-clause-step c = λ v t g stands phase.
    let counted : EndView = record v { sender = shutdown_taken v.sender c.args.tsn } in
    let took = at_view _ counted _ (shutdown_counts v c.args.tsn (c.in-Ok.ensures.answer v t g stands phase)) (c.in-Ok.ensures.step v t g stands phase) in
    let rests = c.settle.ensures counted took in
    let moved = moved_as v counted.sender _ _ (c.cum-before.ensures v stands) (c.cum.ensures (settled counted) rests) in
    let x = settled counted in
    rw (← moved) (c.renew_shut.ensures x rests)

pub returns-in-Err-clause-answer : goal.returns-in-Err-clause-answer
returns-in-Err-clause-answer c = λ v t g stands phase. c.in-Err.ensures.answer v t g stands phase

pub returns-in-Err-clause-refused : goal.returns-in-Err-clause-refused
unfolding MachineStands
returns-in-Err-clause-refused c = λ v t g stands phase.
    at_view _ _ _ (shutdown_left v c.args.tsn (fault_meaning c.in-Err.fault) (c.in-Err.ensures.answer v t g stands phase)) (c.in-Err.ensures.step v t g stands phase)
