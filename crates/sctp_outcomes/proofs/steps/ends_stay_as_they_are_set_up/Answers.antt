use Rattle.sctp_outcomes.proofs.SetUp.{chunks_leave_the_configuration, packets_leave_the_configuration, cut_packets_leave_the_configuration}
use Rattle.sctp_outcomes.proofs.steps.ends_stay_as_they_are_set_up.Goals as goal

pub returns-clause-chunks : goal.returns-clause-chunks
returns-clause-chunks c = chunks_leave_the_configuration

pub returns-clause-packets : goal.returns-clause-packets
returns-clause-packets c = packets_leave_the_configuration

pub returns-clause-cut : goal.returns-clause-cut
returns-clause-cut c = cut_packets_leave_the_configuration
