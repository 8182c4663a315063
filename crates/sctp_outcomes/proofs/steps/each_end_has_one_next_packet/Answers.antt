use Rattle.sctp_outcomes.proofs.OneEnd.{build_is_one as it}
use Rattle.sctp_outcomes.proofs.steps.each_end_has_one_next_packet.Goals as goal

pub returns : goal.returns
returns c = it
