use Rattle.sctp_end.proofs.SessionLemmas.{aborted, abort_not}
use Rattle.sctp_end.proofs.session.Session.abort.Goals as goal

pub returns-in-Ok : goal.returns-in-Ok
returns-in-Ok c = λ v stands.
    aborted _ _ _ c.in-Ok.packet _ _ c.as_slice.ensures (c.in-Ok.ensures.answer v stands) c.new.ensures (c.in-Ok.ensures.step v stands) c.in-Ok.ensures.counts

pub returns-in-Err : goal.returns-in-Err
returns-in-Err c = λ v stands.
    abort_not _ _ _ _ _ c.as_slice.ensures (c.abort_refused.ensures v _ (c.in-Err.ensures.answer v stands)) (c.in-Err.ensures.step v stands) c.in-Err.ensures.counts
