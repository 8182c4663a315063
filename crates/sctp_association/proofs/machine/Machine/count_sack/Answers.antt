use Rattle.sctp_model.specs.sender.SackTaken.{sack_after}
use Rattle.sctp_model.specs.end.EndView.{EndView}
use Rattle.sctp_wire.specs.ChunkTree.{sack_meaning}
use Rattle.sctp_send.specs.SenderAnswers.{fault_meaning}
use Rattle.sctp_association.specs.MachineStands.{MachineStands}
use Rattle.sctp_association.proofs.MachineLemmas.{at_view, with_both}
use Rattle.sctp_association.proofs.MomentLemmas.{owed_due}
use Rattle.sctp_association.proofs.HearingLemmas.{sack_left, started_in}
use Rattle.sctp_association.proofs.machine.Machine.count_sack.Goals as goal

pub returns-in-Ok-clause-answer : goal.returns-in-Ok-clause-answer
returns-in-Ok-clause-answer c = λ v t g stands phase. c.in-Ok.ensures.answer v t g stands phase

pub returns-in-Ok-clause-step : goal.returns-in-Ok-clause-step
unfolding MachineStands
returns-in-Ok-clause-step c = λ v t g stands phase.
    let x : EndView = record v { sender = sack_after v.sender (sack_meaning c.args.sack.now) } in
    let took = c.in-Ok.ensures.step v t g stands phase in
    let left = c.in-Ok.ensures.left v t g stands phase in
    with_both _ x _ _ _ _ took (owed_due _ v.due _ _ (c.owe_forward.ensures v.due took.due) left.past)
    (started_in _ _ _ _ _ _ _ _ _ _ _ _ c.count.ensures left.wanted left.moved left.flies took.clock took.options.first_wait took.timers)

pub returns-in-Err-clause-answer : goal.returns-in-Err-clause-answer
returns-in-Err-clause-answer c = λ v t g stands phase. c.in-Err.ensures.answer v t g stands phase

pub returns-in-Err-clause-refused : goal.returns-in-Err-clause-refused
unfolding MachineStands
returns-in-Err-clause-refused c = λ v t g stands phase.
    at_view _ _ _ (sack_left v (sack_meaning c.args.sack.now) (fault_meaning c.in-Err.fault) (c.in-Err.ensures.answer v t g stands phase)) (c.in-Err.ensures.step v t g stands phase)
