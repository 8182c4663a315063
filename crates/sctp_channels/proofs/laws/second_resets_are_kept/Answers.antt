use Rattle.sctp_channels.proofs.Kept.{second_resets_are_kept as it}
use Rattle.sctp_channels.proofs.laws.second_resets_are_kept.Goals as goal

pub returns : goal.returns
returns c = it
