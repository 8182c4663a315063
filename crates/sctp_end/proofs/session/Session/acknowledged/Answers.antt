use Rattle.sctp_end.specs.Performing.{TellsAcknowledged}
use Rattle.sctp_end.proofs.session.Session.acknowledged.Goals as goal

pub returns : goal.returns
returns c = λ v stands. (v, TellsAcknowledged _ _ (c.acknowledged.ensures v stands), stands)
