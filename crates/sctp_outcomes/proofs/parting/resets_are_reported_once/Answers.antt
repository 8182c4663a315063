use Rattle.sctp_outcomes.proofs.stories.TwoResets.{two_resets_are_reported}
use Rattle.sctp_outcomes.proofs.users.ReportedOnce.{resets_are_reported_once as it}
use Rattle.sctp_outcomes.proofs.parting.resets_are_reported_once.Goals as goal

pub returns-clause-once : goal.returns-clause-once
returns-clause-once c = it

pub returns-clause-twice : goal.returns-clause-twice
returns-clause-twice c = two_resets_are_reported
