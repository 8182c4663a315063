use Rattle.sctp_outcomes.proofs.stories.ReusedRun.{a_reset_lies_between}
use Rattle.sctp_outcomes.proofs.users.AllReported.{resets_are_all_reported as it}
use Rattle.sctp_outcomes.proofs.users.Placed.{resets_have_places}
use Rattle.sctp_outcomes.proofs.parting.resets_are_all_reported.Goals as goal

pub returns-clause-counts : goal.returns-clause-counts
returns-clause-counts c = it

pub returns-clause-places : goal.returns-clause-places
returns-clause-places c = resets_have_places

pub returns-clause-between : goal.returns-clause-between
returns-clause-between c = a_reset_lies_between
