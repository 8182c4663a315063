use Rattle.sctp_outcomes.proofs.logs.Heard.{packets_keep_logs, cut_packets_keep_logs}
use Rattle.sctp_outcomes.proofs.logs.Passed.{moments_keep_logs}
use Rattle.sctp_outcomes.proofs.kept.what_comes_keeps_logs.Goals as goal

pub returns-clause-packets : goal.returns-clause-packets
returns-clause-packets c = packets_keep_logs

pub returns-clause-cut : goal.returns-clause-cut
returns-clause-cut c = cut_packets_keep_logs

pub returns-clause-moments : goal.returns-clause-moments
returns-clause-moments c = moments_keep_logs
