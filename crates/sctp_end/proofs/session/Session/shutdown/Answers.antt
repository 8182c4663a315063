use Rattle.std.proofs.Common.{sym}
use Rattle.sctp_model.specs.end.UserCalls.{Shut, NotShut}
use Rattle.sctp_end.specs.Performing.{ShutsDown}
use Rattle.sctp_end.proofs.SessionLemmas.{counted_as}
use Rattle.sctp_end.proofs.session.Session.shutdown.Goals as goal

pub returns-in-Ok : goal.returns-in-Ok
returns-in-Ok c = λ v stands.
    (_, counted_as _ _ _ _ _ _ c.in-Ok.ensures.counts (ShutsDown Shut (sym (c.in-Ok.ensures.answer v stands))), c.in-Ok.ensures.step v stands)

pub returns-in-Err-NotOpen : goal.returns-in-Err-NotOpen
returns-in-Err-NotOpen c = λ v stands.
    (_, counted_as _ _ _ _ _ _ c.in-Err-NotOpen.ensures.counts (ShutsDown NotShut (sym (c.in-Err-NotOpen.ensures.answer v stands))), c.in-Err-NotOpen.ensures.step v stands)
