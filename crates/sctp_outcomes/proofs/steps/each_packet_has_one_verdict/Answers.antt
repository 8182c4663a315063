use Rattle.sctp_outcomes.proofs.OneEnd.{act_is_one as it}
use Rattle.sctp_outcomes.proofs.steps.each_packet_has_one_verdict.Goals as goal

pub returns : goal.returns
returns c = it
