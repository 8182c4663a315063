use Rattle.std.proofs.Common.{sym, ap, ◌∙◌}
use Rattle.sctp_dcep.specs.Meanings.{reliability_meaning}
use Rattle.sctp_channels.specs.declared.stream.State.TheVariants.{Open}
use Rattle.sctp_channels.specs.declared.stream.Stream.{Stream}
use Rattle.sctp_channels.specs.Streams.{with_channel}
use Rattle.sctp_channels.specs.ChannelsStand.{ChannelsStand, endpoint_of, table_of}
use Rattle.sctp_channels.proofs.OpeningLemmas.{negotiated_same}
use Rattle.sctp_channels.proofs.TableLemmas.{put_as, at_as}
use Rattle.sctp_channels.proofs.channels.Channels.open_negotiated.Goals as goal

pub returns-in-Ok-clause-step : goal.returns-in-Ok-clause-step
unfolding ChannelsStand endpoint_of table_of
returns-in-Ok-clause-step c = λ v x stands.
    let s = c.args.stream in
    let kept = c.with_channel-kept.ensures ∙ ap (λ (y : Stream). with_channel Open c.args.ordered (reliability_meaning c.args.reliability) y) (at_as _ x s _ c.at.ensures stands.1) in
    (negotiated_same v x (reliability_meaning c.args.reliability) s _ (c.in-Ok.ensures v x stands), (stands.0, put_as _ _ x s _ _ c.set.ensures stands.1 kept, (λ on. absurd (cc on))))

pub returns-in-Err-clause-step : goal.returns-in-Err-clause-step
returns-in-Err-clause-step c = λ v x stands. (sym (c.in-Err.ensures v x stands), stands)
