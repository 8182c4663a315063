use Rattle.std.proofs.Common.{ap, inl, subst}
use Rattle.std.specs.Prelude.{Ok}
use Rattle.sctp_dcep.specs.Meanings.{content_meaning}
use Rattle.sctp_channels.specs.declared.stream.Stream.{Stream}
use Rattle.sctp_channels.specs.Streams.{stream_at}
use Rattle.sctp_channels.specs.Answers.{is_ack_due}
use Rattle.sctp_channels.specs.inner.Sent.{AcksOn}
use Rattle.sctp_channels.specs.ChannelsStand.{ChannelsStand, table_of}
use Rattle.sctp_channels.proofs.SendingLemmas.{behind_acked}
use Rattle.sctp_channels.proofs.TableLemmas.{at_as}
use Rattle.sctp_channels.proofs.channels.Channels.send_after_ack.Goals as goal

pub returns-in-Ok-clause-step : goal.returns-in-Ok-clause-step
unfolding ChannelsStand table_of
returns-in-Ok-clause-step c = λ v x stands due.
    let s = c.args.stream in
    let there = at_as _ x s _ c.at-kept.ensures stands.1 in
    let told = subst (λ (y : Stream). AcksOn v x s y (Ok c.in-Ok.kept) c.acknowledge.new.self) there (c.in-Ok.ensures.step v x stands) in
    behind_acked v x c.args.now s (stream_at x s) c.in-Ok.kept (content_meaning c.args.content) told.0 c.send_on.result c.send_on.new.self due told.1 told.2 (c.send_on.ensures.step _ _ told.3)

pub returns-in-Err-clause-step : goal.returns-in-Err-clause-step
unfolding ChannelsStand table_of
returns-in-Err-clause-step c = λ v x stands due.
    let told = c.in-Err.ensures.step v x stands in
    inl ((ap is_ack_due due, told.0), told.1)
