use Rattle.sctp_channels.specs.ChannelsStand.{ChannelsStand, endpoint_of, table_of}
use Rattle.sctp_channels.proofs.TableLemmas.{put_as}
use Rattle.sctp_channels.proofs.channels.Channels.acknowledge.Goals as goal

pub returns-in-Ok-clause-step : goal.returns-in-Ok-clause-step
unfolding ChannelsStand endpoint_of table_of
returns-in-Ok-clause-step c = λ v x stands.
    let told = c.in-Ok.ensures.step v x stands in
    (_, told.0, c.without_due-kept.ensures, (told.1.0, put_as _ _ x c.args.stream _ _ c.set.ensures told.1.1 c.without_due-kept.ensures, (λ on. absurd (cc on))))
