use Rattle.sctp_end.specs.Performing.{Abandons}
use Rattle.sctp_end.proofs.SessionLemmas.{counted_as}
use Rattle.sctp_end.proofs.session.Session.abandon.Goals as goal

pub returns : goal.returns
returns c = λ v stands.
    (_, counted_as _ _ _ _ _ _ c.abandon.ensures.counts (Abandons _ _ (c.abandon.ensures.answer v stands)), c.abandon.ensures.step v stands)
