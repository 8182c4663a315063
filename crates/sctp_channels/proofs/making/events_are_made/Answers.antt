use Rattle.sctp_channels.proofs.MadeEvents.{events_are_made as it}
use Rattle.sctp_channels.proofs.making.events_are_made.Goals as goal

pub returns : goal.returns
returns c = it
