use Rattle.sctp_outcomes.proofs.resets.CountedRuns.{each_count_is_of_a_request, never_more_than_wait}
use Rattle.sctp_outcomes.proofs.resetting.reported_counts_were_so.Goals as goal

pub returns-clause-counts : goal.returns-clause-counts
returns-clause-counts c = each_count_is_of_a_request

pub returns-clause-waiting : goal.returns-clause-waiting
returns-clause-waiting c = never_more_than_wait
