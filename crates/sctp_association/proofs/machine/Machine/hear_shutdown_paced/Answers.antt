use Rattle.std.proofs.Common.{refl, sym, subst}
use Rattle.sctp_model.specs.sender.SenderView.{SenderView}
use Rattle.sctp_model.specs.end.EndView.{format_of}
use Rattle.sctp_association.specs.Weighing.{AreBefore}
use Rattle.sctp_association.specs.Acknowledges.{shut_rests, shut_timer_of}
use Rattle.sctp_association.proofs.BackLemmas.{shut_keeps}
use Rattle.sctp_association.proofs.HearingLemmas.{sender_shut}
use Rattle.sctp_association.proofs.machine.Machine.hear_shutdown_paced.Goals as goal

pub returns-in-Ok-clause-answer : goal.returns-in-Ok-clause-answer
returns-in-Ok-clause-answer c = λ v t g stands phase. c.in-Ok.ensures.answer v t g stands phase

pub returns-in-Ok-clause-step : goal.returns-in-Ok-clause-step
returns-in-Ok-clause-step c = λ v t g stands phase.
    let none = c.in-Ok.ensures.answer v t g stands phase in
    c.follow.ensures v (shut_rests v c.args.tsn) (shut_timer_of v c.args.tsn) t g
    (subst (λ (u : SenderView). AreBefore (format_of v) v u c.weigh_shutdown-weighed.result) (sender_shut v c.args.tsn none) (c.weigh_shutdown-weighed.ensures v t g stands phase (sym none)))
    (shut_keeps v.sender c.args.tsn) refl phase (c.in-Ok.ensures.step v t g stands phase)

pub returns-in-Err-clause-answer : goal.returns-in-Err-clause-answer
returns-in-Err-clause-answer c = λ v t g stands phase. c.in-Err.ensures.answer v t g stands phase

pub returns-in-Err-clause-refused : goal.returns-in-Err-clause-refused
returns-in-Err-clause-refused c = λ v t g stands phase. c.in-Err.ensures.refused v t g stands phase
