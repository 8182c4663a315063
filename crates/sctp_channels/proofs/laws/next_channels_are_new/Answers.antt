use Rattle.sctp_channels.proofs.NextChannel.{next_channels_are_new as it}
use Rattle.sctp_channels.proofs.laws.next_channels_are_new.Goals as goal

pub returns : goal.returns
returns c = it
