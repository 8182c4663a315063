use Rattle.sctp_safety.proofs.runs.parted.Parting.{requests_part_messages as it}
use Rattle.sctp_safety.proofs.resets.requests_part_messages.Goals as goal

pub returns : goal.returns
returns c = it
