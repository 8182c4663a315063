use Rattle.std.proofs.Common.{◌≡◌, true, sym, ap, ◌∙◌}
use Rattle.sctp_channels.specs.declared.stream.Stream.{Stream}
use Rattle.sctp_channels.specs.Streams.{Table, may_send, stream_at}
use Rattle.sctp_channels.specs.Buffered.{buffered, threshold_of, with_thresholds}
use Rattle.sctp_channels.specs.ChannelsStand.{ChannelsStand, endpoint_of, table_of}
use Rattle.sctp_channels.proofs.TableLemmas.{at_as, put_threshold}
use Rattle.sctp_channels.proofs.channels.Channels.set_buffered_amount_low_threshold.Goals as goal

pub returns-in-Ok-clause-step : goal.returns-in-Ok-clause-step
unfolding ChannelsStand endpoint_of table_of
returns-in-Ok-clause-step c = λ v x stands.
    let s = c.args.stream in
    let kept = at_as _ x s _ c.at.ensures stands.1 in
    let goes : may_send c.at.result.state ≡ true = cc in
    let may : may_send (stream_at x s).state ≡ true = ap (λ (y : Stream). may_send y.state) (sym kept) ∙ goes in
    let made = c.in-Ok.ensures.made ∙ ap (λ (t : Table). with_thresholds t) stands.1 in
    let amount = c.buffered_amount.ensures v (with_thresholds x) (stands.0, made, (λ on. absurd (cc on))) in
    let set = c.of-threshold.ensures ∙ ap (λ (n : _). threshold_of c.args.bytes n) amount in
    (may, (stands.0, put_threshold _ _ (with_thresholds x) s _ _ c.set_threshold.ensures made set, (λ on. absurd (cc on))))
