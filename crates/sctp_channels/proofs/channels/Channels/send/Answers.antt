use Rattle.std.proofs.Common.{◌≡◌, true, sym, ap, ◌∙◌, subst}
use Rattle.std.specs.Prelude.{Ok, Err}
use Rattle.sctp_dcep.specs.Meanings.{content_meaning}
use Rattle.sctp_channels.specs.declared.stream.Stream.{Stream}
use Rattle.sctp_channels.specs.Streams.{may_send, stream_at}
use Rattle.sctp_channels.specs.inner.Sent.{SendsBehind}
use Rattle.sctp_channels.specs.ChannelsStand.{ChannelsStand, table_of}
use Rattle.sctp_channels.proofs.TableLemmas.{at_as}
use Rattle.sctp_channels.proofs.channels.Channels.send.Goals as goal

pub returns-in-Ok-clause-step : goal.returns-in-Ok-clause-step
unfolding ChannelsStand table_of
returns-in-Ok-clause-step c = λ v x stands.
    let kept = at_as _ x c.args.stream _ c.at-kept.ensures stands.1 in
    let told = subst (λ (y : Stream). SendsBehind v x c.args.now c.args.stream y (content_meaning c.args.content) (Ok c.in-Ok.ticket) c.send_behind_ack.new.self) kept (c.in-Ok.ensures.step v x stands kept) in
    let goes : may_send c.at-kept.result.state ≡ true = cc in
    let may : may_send (stream_at x c.args.stream).state ≡ true = ap (λ (y : Stream). may_send y.state) (sym kept) ∙ goes in
    (may, told.0, told.1, c.look.ensures.step _ _ told.2)

pub returns-in-Err-clause-step : goal.returns-in-Err-clause-step
unfolding ChannelsStand table_of
returns-in-Err-clause-step c = λ v x stands.
    let kept = at_as _ x c.args.stream _ c.at-kept.ensures stands.1 in
    let told = subst (λ (y : Stream). SendsBehind v x c.args.now c.args.stream y (content_meaning c.args.content) (Err c.in-Err.why) c.send_behind_ack.new.self) kept (c.in-Err.ensures.step v x stands kept) in
    let goes : may_send c.at-kept.result.state ≡ true = cc in
    let may : may_send (stream_at x c.args.stream).state ≡ true = ap (λ (y : Stream). may_send y.state) (sym kept) ∙ goes in
    (may, told)
