use Rattle.sctp_channels.proofs.OneChannel.{channels_are_one as it}
use Rattle.sctp_channels.proofs.TwoChannels.{two_channels_on_a_stream}
use Rattle.sctp_channels.proofs.laws.channels_are_one.Goals as goal

pub returns-clause-one : goal.returns-clause-one
returns-clause-one c = it

pub returns-clause-two : goal.returns-clause-two
returns-clause-two c = two_channels_on_a_stream
