use Rattle.sctp_outcomes.proofs.users.PartedRuns.{resets_part_messages as it}
use Rattle.sctp_outcomes.proofs.parting.resets_part_messages.Goals as goal

pub returns : goal.returns
returns c = it
