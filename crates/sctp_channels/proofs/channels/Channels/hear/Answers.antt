use Rattle.std.proofs.Common.{ap, ◌∙◌, subst}
use Rattle.sctp_recv.specs.HandedOf.{message_bytes, handed_of}
use Rattle.sctp_model.specs.end.EndView.{EndView}
use Rattle.sctp_endpoint.specs.EndpointStands.{EndpointStands}
use Rattle.sctp_channels.specs.Streams.{Table, with_stream}
use Rattle.sctp_channels.specs.Told.{Told}
use Rattle.sctp_channels.specs.Events.{one_on}
use Rattle.sctp_channels.specs.inner.SaidMeans.{told_meaning, after_meaning}
use Rattle.sctp_channels.specs.ChannelsStand.{ChannelsStand, endpoint_of, table_of}
use Rattle.sctp_channels.proofs.HearingLemmas.{first_waits, came_as, told_waiting, told_taken, took}
use Rattle.sctp_channels.proofs.TableLemmas.{put_as, at_as}
use Rattle.sctp_channels.proofs.ContentLemmas.{told_content}
use Rattle.sctp_channels.proofs.channels.Channels.hear.Goals as goal

pub returns-in-Some-content_told-clause-told : goal.returns-in-Some-content_told-clause-told
unfolding ChannelsStand endpoint_of table_of
returns-in-Some-content_told-clause-told c = λ v x stands.
    let s = c.args.stream in
    let m = c.in-Some.message.now in
    let first = first_waits (v.receiver.waiting s) (handed_of m) (c.in-Some.ensures v stands.0) in
    let kept = at_as _ x s _ c.at-kept.ensures stands.1 in
    told_content v x s (handed_of m) first.0 _ _ _ _ first.1 kept (c.in-Some-content_told.ensures (message_bytes m)) (c.take_content.ensures.step v x (handed_of m) first.0 stands first.1 kept)

pub returns-then-not-after-clause-told : goal.returns-then-not-after-clause-told
unfolding ChannelsStand endpoint_of table_of
returns-then-not-after-clause-told c = λ v x stands.
    let s = c.args.stream in
    let m = c.in-Some.message.now in
    let first = first_waits (v.receiver.waiting s) (handed_of m) (c.in-Some.ensures v stands.0) in
    let came = came_as _ _ x.role _ _ s _ _ _ _ (c.comes-after.ensures (message_bytes m)) (ap (λ (t : Table). t.role) stands.1) (c.outgoing.ensures.count v x stands) c.in_ok-said.ensures (at_as _ x s _ c.at-kept.ensures stands.1) in
    told_waiting v x s (handed_of m) first.0 (after_meaning (message_bytes m) c.comes-after.result) _ first.1 came c.if-not-after.true
    (stands.0, c.set.ensures ∙ ap (λ (t : Table). with_stream t s c.comes-after.result.stream) stands.1, (λ on. absurd (cc on)))

pub returns-clause-told : goal.returns-clause-told
unfolding ChannelsStand endpoint_of table_of
returns-clause-told c = λ v x stands.
    let s = c.args.stream in
    let m = c.in-Some.message.now in
    let first = first_waits (v.receiver.waiting s) (handed_of m) (c.in-Some.ensures v stands.0) in
    let came = came_as _ _ x.role _ _ s _ _ _ _ (c.comes-after.ensures (message_bytes m)) (ap (λ (t : Table). t.role) stands.1) (c.outgoing.ensures.count v x stands) c.in_ok-said.ensures (at_as _ x s _ c.at-kept.ensures stands.1) in
    let step = c.take-message.ensures.step v stands.0 in
    let taken = took v step.0 s c.take-message.result (handed_of m) first.0 step.1 first.1 in
    let put = put_as _ _ x s _ _ c.set-2.ensures stands.1 c.one_taken.ensures in
    told_taken v x s (handed_of m) first.0 (after_meaning (message_bytes m) c.comes-after.result) c.event.result _ first.1 came c.if-not-after.false
    (c.event.ensures ∙ ap (λ (t : Told). record { stream = s; told = t }) (ap (λ (bytes : _). told_meaning bytes c.comes-after.result.told) taken.0))
    (c.free_behind.ensures.step _ _ (message_bytes m) (
      subst (λ (t : EndView). EndpointStands c.take-message.new.self t) taken.1 step.2,
      c.turn_past.ensures ∙ ap (λ (t : Table). record t { next = one_on s }) put,
      (λ on. absurd (cc on)),
    ))
