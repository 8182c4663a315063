use Rattle.sctp_channels.proofs.Promised.{channels_say_what_was_sent as it}
use Rattle.sctp_channels.proofs.laws.channels_say_what_was_sent.Goals as goal

pub returns : goal.returns
returns c = it
