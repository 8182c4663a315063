use Rattle.sctp_channels.proofs.Driven.{channels_are_faithful as it}
use Rattle.sctp_channels.proofs.laws.channels_are_faithful.Goals as goal

pub returns : goal.returns
returns c = it
