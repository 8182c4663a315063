use Rattle.sctp_channels.specs.ChannelsStand.{ChannelsStand, endpoint_of, table_of}
use Rattle.sctp_channels.proofs.channels.Channels.look_ahead.Goals as goal

pub returns-then-self-clause-ahead : goal.returns-then-self-clause-ahead
unfolding ChannelsStand endpoint_of table_of
returns-then-self-clause-ahead c = λ v x stands. stands.2 c.if-self.true

pub returns-clause-ahead : goal.returns-clause-ahead
returns-clause-ahead c = λ v x stands. (c.in_default.ensures v x stands, c.in_default-first_low.ensures v x stands)

pub returns-clause-same : goal.returns-clause-same
unfolding ChannelsStand endpoint_of table_of
returns-clause-same c = λ v x stands. (stands.0, stands.1, λ _. (c.in_default.ensures v x stands, c.in_default-first_low.ensures v x stands))
