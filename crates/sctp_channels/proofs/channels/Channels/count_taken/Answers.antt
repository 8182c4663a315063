use Rattle.std.proofs.Common.{◌∙◌, ap, subst, sym, refl}
use Rattle.sctp_channels.specs.Streams.{Table, stream_at}
use Rattle.sctp_channels.specs.Coming.{one_taken}
use Rattle.sctp_channels.specs.Events.{one_on}
use Rattle.sctp_channels.specs.ChannelsStand.{ChannelsStand, IsCalm, endpoint_of, table_of}
use Rattle.sctp_channels.proofs.ContentLemmas.{uncounted}
use Rattle.sctp_channels.proofs.TableLemmas.{at_as, put_as}
use Rattle.sctp_channels.proofs.channels.Channels.count_taken.Goals as goal

pub returns-then-not-is_left-clause-step : goal.returns-then-not-is_left-clause-step
unfolding ChannelsStand endpoint_of table_of
returns-then-not-is_left-clause-step c = λ v x stands left.
    let s = c.args.stream in
    let same = uncounted x s (stream_at x s) (sym left ∙ c.if-not-is_left.true) refl in (
      stands.0,
      c.turn_past.ensures ∙ ap (λ (t : Table). record t { next = one_on s }) (stands.1 ∙ same),
      subst (λ (t : Table). IsCalm c.args.self.now.is_calm v (record t { next = one_on s })) same stands.2,
    )

pub returns-clause-step : goal.returns-clause-step
unfolding ChannelsStand endpoint_of table_of
returns-clause-step c = λ v x stands left.
    let s = c.args.stream in
    let there = at_as _ x s _ c.at-kept.ensures stands.1 in (
      stands.0,
      c.turn_past-2.ensures ∙ ap (λ (t : Table). record t { next = one_on s }) (put_as _ _ x s _ _ c.set.ensures stands.1 (c.one_taken.ensures ∙ ap one_taken there)),
      (λ on. absurd (cc on)),
    )
