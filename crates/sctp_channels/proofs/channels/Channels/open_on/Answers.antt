use Rattle.std.proofs.Common.{ap, ◌∙◌}
use Rattle.sctp_dcep.specs.Meanings.{reliability_meaning}
use Rattle.sctp_channels.specs.declared.stream.State.TheVariants.{Connecting}
use Rattle.sctp_channels.specs.declared.stream.Stream.{Stream}
use Rattle.sctp_channels.specs.Streams.{with_channel}
use Rattle.sctp_channels.specs.ChannelsStand.{ChannelsStand, endpoint_of, table_of}
use Rattle.sctp_channels.proofs.TableLemmas.{put_as, at_as}
use Rattle.sctp_channels.proofs.channels.Channels.open_on.Goals as goal

pub returns-in-Ok-clause-step : goal.returns-in-Ok-clause-step
unfolding ChannelsStand endpoint_of table_of
returns-in-Ok-clause-step c = λ v x o stands choice.
    let s = c.args.stream in
    let p = c.args.parameters.now in
    let told = c.in-Ok.ensures.step v x stands in
    let kept = c.with_channel-kept.ensures ∙ ap (λ (y : Stream). with_channel Connecting p.ordered (reliability_meaning p.reliability) y) (at_as _ x s _ c.at.ensures told.1.1) in
    (_, choice, told.0, (told.1.0, put_as _ _ x s _ _ c.set.ensures told.1.1 kept, (λ on. absurd (cc on))))

pub returns-in-Err-clause-step : goal.returns-in-Err-clause-step
returns-in-Err-clause-step c = λ v x o stands choice.
    let told = c.in-Err.ensures.step v x stands in
    (c.args.stream, choice, told.0, told.1)
