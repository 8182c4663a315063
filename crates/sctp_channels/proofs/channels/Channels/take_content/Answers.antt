use Rattle.std.proofs.Common.{ap, ◌∙◌, subst, sym, Some}
use Rattle.sctp_model.specs.end.EndView.{EndView}
use Rattle.sctp_endpoint.specs.EndpointStands.{EndpointStands}
use Rattle.sctp_channels.specs.declared.stream.Stream.{Stream}
use Rattle.sctp_channels.specs.Streams.{is_reset, with_stream}
use Rattle.sctp_channels.specs.Told.{Message}
use Rattle.sctp_channels.specs.Coming.{one_taken}
use Rattle.sctp_channels.specs.Events.{first_taken_at, one_on}
use Rattle.sctp_channels.specs.inner.SaidMeans.{kind_meaning}
use Rattle.sctp_channels.specs.ChannelsStand.{ChannelsStand, IsCalm, endpoint_of, table_of}
use Rattle.sctp_channels.proofs.HearingLemmas.{took}
use Rattle.sctp_channels.proofs.CalmLemmas.{taken_calm}
use Rattle.sctp_channels.proofs.channels.Channels.take_content.Goals as goal

pub returns-clause-step : goal.returns-clause-step
unfolding ChannelsStand endpoint_of table_of
returns-clause-step c = λ v x h rest stands waits kept.
    let s = c.args.stream in
    let k = c.args.kind in
    let step = c.take-message.ensures.step v stands.0 in
    let taken = took v step.0 s c.take-message.result h rest step.1 waits in
    let calm = taken_calm _ v step.0 x s _ step.1 stands.2 in
    record {
      report = ap Some (c.content_event.ensures ∙ ap (λ (bytes : _). record { stream = s; told = Message (kind_meaning bytes k) }) taken.0);
      stands = subst (λ (y : Stream). ChannelsStand c.count_taken.new.self (first_taken_at v s h rest) (record (with_stream x s (one_taken y)) { next = one_on s })) (sym kept)
          (c.count_taken.ensures.step _ x (
            subst (λ (t : EndView). EndpointStands c.take-message.new.self t) taken.1 step.2,
            stands.1,
            subst (λ (t : EndView). IsCalm c.args.self.now.is_calm t x) taken.1 calm,
          ) (c.is_reset.ensures ∙ ap (λ (y : Stream). is_reset y.resets) kept));
    }
