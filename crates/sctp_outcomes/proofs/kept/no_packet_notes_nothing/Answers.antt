use Rattle.sctp_outcomes.proofs.logs.Built.{empty_builds_keep_logs as it}
use Rattle.sctp_outcomes.proofs.kept.no_packet_notes_nothing.Goals as goal

pub returns : goal.returns
returns c = it
