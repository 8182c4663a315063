use Rattle.sctp_channels.proofs.AllNoted.{resets_are_all_noted as it}
use Rattle.sctp_channels.proofs.laws.resets_are_all_noted.Goals as goal

pub returns : goal.returns
returns c = it
