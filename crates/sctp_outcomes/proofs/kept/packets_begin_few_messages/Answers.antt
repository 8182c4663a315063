use Rattle.sctp_outcomes.proofs.logs.Built.{builds_begin_few as it}
use Rattle.sctp_outcomes.proofs.kept.packets_begin_few_messages.Goals as goal

pub returns : goal.returns
returns c = it
