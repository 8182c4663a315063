use Rattle.sctp_end.specs.Performing.{Draws}
use Rattle.sctp_end.proofs.session.Session.redraw.Goals as goal

pub returns : goal.returns
returns c = λ v stands. (v, Draws _, stands)
