use Rattle.sctp_channels.proofs.Promised.{contents_are_taken as it}
use Rattle.sctp_channels.proofs.laws.contents_are_taken.Goals as goal

pub returns : goal.returns
returns c = it
