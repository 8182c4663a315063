use Rattle.sctp_end.specs.Performing.{TellsPath}
use Rattle.sctp_end.proofs.session.Session.path.Goals as goal

pub returns : goal.returns
returns c = λ v stands. (v, TellsPath _ _ (c.in_flight.ensures v stands) (c.path.ensures v stands), stands)
