use Rattle.sctp_end.proofs.SessionLemmas.{time_passes}
use Rattle.sctp_end.proofs.session.Session.pass.Goals as goal

pub returns : goal.returns
returns c = λ v stands. (_, time_passes _ _ _ _ c.on_moment.ensures.counts c.max-self.ensures, c.on_moment.ensures.step v stands)
