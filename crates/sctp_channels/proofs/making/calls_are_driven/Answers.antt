use Rattle.sctp_channels.proofs.MadeRuns.{calls_are_driven as it}
use Rattle.sctp_channels.proofs.making.calls_are_driven.Goals as goal

pub returns : goal.returns
returns c = it
