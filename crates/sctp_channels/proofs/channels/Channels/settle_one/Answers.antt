use Rattle.std.proofs.Common.{subst, false}
use Rattle.sctp_channels.specs.declared.channels.Channels.{Channels}
use Rattle.sctp_channels.specs.declared.stream.Stream.{Stream}
use Rattle.sctp_channels.specs.Streams.{with_stream}
use Rattle.sctp_channels.specs.Settling.{settled}
use Rattle.sctp_channels.specs.ChannelsStand.{ChannelsStand, endpoint_of, table_of}
use Rattle.sctp_channels.proofs.TableLemmas.{put_as, at_as}
use Rattle.sctp_channels.proofs.channels.Channels.settle_one.Goals as goal

pub returns-in-Ok-clause-step : goal.returns-in-Ok-clause-step
unfolding ChannelsStand endpoint_of table_of
returns-in-Ok-clause-step c = λ v x stands.
    let s = c.args.stream in
    let new : Channels = record { alloc = c.settle_due.new.self.alloc; endpoint = c.settle_due.new.self.endpoint; table = c.set.new.self; is_calm = false } in
    let told = c.in-Ok.ensures.step v x stands in
    subst (λ (y : Stream). ChannelsStand new (settled v s y).view (with_stream x s (settled v s y).stream)) (at_as _ x s _ c.at-kept.ensures stands.1)
    (told.1.0, put_as _ _ x s _ _ c.set.ensures told.1.1 told.0, (λ on. absurd (cc on)))
