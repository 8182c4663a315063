use Rattle.sctp_end.specs.Performing.{TellsAbandoned}
use Rattle.sctp_end.proofs.session.Session.abandoned.Goals as goal

pub returns : goal.returns
returns c = λ v stands. (v, TellsAbandoned _ _ (c.abandoned.ensures v stands), stands)
