use Rattle.sctp_outcomes.proofs.BothClocks.{one_clock_stays_one, both_are_each}
use Rattle.sctp_outcomes.proofs.clocks.one_clock_is_a_case_of_two.Goals as goal

pub returns-clause-same : goal.returns-clause-same
returns-clause-same c = one_clock_stays_one

pub returns-clause-each : goal.returns-clause-each
returns-clause-each c = both_are_each
