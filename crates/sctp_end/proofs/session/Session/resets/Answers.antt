use Rattle.sctp_end.specs.Performing.{TellsReset, TellsNoReset}
use Rattle.sctp_end.proofs.SessionLemmas.{counted_as}
use Rattle.sctp_end.proofs.session.Session.resets.Goals as goal

pub returns-in-Some : goal.returns-in-Some
returns-in-Some c = λ v stands.
    let told = c.in-Some.ensures.answer v stands in
    (_, counted_as _ _ _ _ _ _ c.in-Some.ensures.counts (TellsReset _ _ told.0 told.1), c.in-Some.ensures.step v stands)

pub returns-in-None : goal.returns-in-None
returns-in-None c = λ v stands.
    (v, counted_as _ _ _ v _ _ c.in-None.ensures.counts (TellsNoReset (c.in-None.ensures.answer v stands)), c.in-None.ensures.step v stands)
