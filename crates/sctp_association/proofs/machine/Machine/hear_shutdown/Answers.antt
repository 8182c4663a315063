use Rattle.std.proofs.Common.{◌∙◌, sym}
use Rattle.sctp_model.specs.end.EndView.{DataAlarm}
use Rattle.sctp_model.specs.end.Clock.{with_timer}
use Rattle.sctp_association.specs.MachineStands.{MachineStands}
use Rattle.sctp_association.specs.Acknowledges.{shut_rests, shut_timer_of}
use Rattle.sctp_association.proofs.MachineLemmas.{at_view}
use Rattle.sctp_association.proofs.CumLemmas.{no_pace}
use Rattle.sctp_association.proofs.PaceLemmas.{none_there}
use Rattle.sctp_association.proofs.HearingLemmas.{follows_unpaced}
use Rattle.sctp_association.proofs.machine.Machine.hear_shutdown.Goals as goal

pub returns-in-Ok-clause-answer : goal.returns-in-Ok-clause-answer
returns-in-Ok-clause-answer c = λ v t g stands phase. c.in-Ok.ensures.answer v t g stands phase

pub returns-in-Ok-clause-step : goal.returns-in-Ok-clause-step
unfolding MachineStands
returns-in-Ok-clause-step c = λ v t g stands phase.
    let free = no_pace _ _ _ v.pace (none_there _ (sym c.is_some.ensures ∙ c.if-is_some.false)) stands.pace in
    let rests = shut_rests v c.args.tsn in
    let timer = shut_timer_of v c.args.tsn in
    at_view _ _ _ (follows_unpaced v.sender (v.timers DataAlarm).wait timer rests free) (c.start_flying.ensures (with_timer DataAlarm timer rests) (c.in-Ok.ensures.step v t g stands phase))

pub returns-in-Err-clause-answer : goal.returns-in-Err-clause-answer
returns-in-Err-clause-answer c = λ v t g stands phase. c.in-Err.ensures.answer v t g stands phase

pub returns-in-Err-clause-refused : goal.returns-in-Err-clause-refused
returns-in-Err-clause-refused c = λ v t g stands phase. c.in-Err.ensures.refused v t g stands phase
