use Rattle.sctp_channels.proofs.Promised.{closed_at_the_place as it}
use Rattle.sctp_channels.proofs.laws.closed_at_the_place.Goals as goal

pub returns : goal.returns
returns c = it
