use Rattle.std.proofs.Common.{sym}
use Rattle.sctp_model.specs.end.UserCalls.{Called, NotIdle}
use Rattle.sctp_end.specs.Performing.{Connects}
use Rattle.sctp_end.proofs.SessionLemmas.{counted_as}
use Rattle.sctp_end.proofs.session.Session.connect.Goals as goal

pub returns-in-Ok : goal.returns-in-Ok
returns-in-Ok c = λ v stands.
    (_, counted_as _ _ _ _ _ _ c.in-Ok.ensures.counts (Connects _ Called (sym (c.in-Ok.ensures.answer v stands))), c.in-Ok.ensures.step v stands)

pub returns-in-Err-State : goal.returns-in-Err-State
returns-in-Err-State c = λ v stands.
    (_, counted_as _ _ _ _ _ _ c.in-Err-State.ensures.counts (Connects _ NotIdle (sym (c.in-Err-State.ensures.answer v stands))), c.in-Err-State.ensures.step v stands)
