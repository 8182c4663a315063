use Rattle.std.proofs.Common.{◌≡◌, ℕ, ◌-◌, ◌≤◌, sym, ap, ◌∙◌, subst, arith, false}
use Rattle.sctp_channels.specs.declared.channels.Channels.{Channels}
use Rattle.sctp_channels.specs.declared.stream.Stream.{Stream}
use Rattle.sctp_channels.specs.Streams.{stream_at}
use Rattle.sctp_channels.specs.Coming.{peer_resets}
use Rattle.sctp_model.specs.receiver.ResetTaken.{old_waiting}
use Rattle.sctp_channels.specs.Settling.{Standing}
use Rattle.sctp_channels.specs.Events.{all_noted, with_reset}
use Rattle.sctp_channels.specs.ChannelsStand.{ChannelsStand, endpoint_of, table_of}
use Rattle.sctp_channels.proofs.NotingLemmas.{noted_none, noted_more, noted_all}
use Rattle.sctp_channels.proofs.TableLemmas.{put_as, at_as}
use Rattle.sctp_channels.proofs.channels.Channels.note_each_reset.Goals as goal

pub returns-in-None-clause-step : goal.returns-in-None-clause-step
unfolding ChannelsStand endpoint_of table_of
returns-in-None-clause-step c = λ v x stands.
    let so_far = c.loop-done.invariant.step v x stands in
    let w = so_far.0 in
    let y = so_far.1 in
    let st = so_far.2 in
    let new : Channels = record { alloc = c.loop-done.self.alloc; endpoint = c.take_reset.new.self; table = c.loop-done.self.table; is_calm = false } in
    let all : all_noted v x ≡ record { view = w; table = y } = sym so_far.3 ∙ noted_none (c.inbound-streams.result - c.loop-done.done) w y (c.in-None.ensures.answer w st.0) in
    subst (λ (t : Standing). ChannelsStand new t.view t.table) (sym all) (c.in-None.ensures.step w st.0, st.1, (λ on. absurd (cc on)))

pub returns-in-None-clause-counts : goal.returns-in-None-clause-counts
unfolding endpoint_of
returns-in-None-clause-counts c = c.in-None.ensures.counts ∙ c.loop-done.invariant.counts

pub loop-done-preserved : goal.loop-done-preserved
unfolding ChannelsStand endpoint_of table_of
loop-done-preserved c = record {
  counts = c.in-Some.ensures.counts ∙ c.loop-done.invariant.counts;
  step = λ v x stands.
      let so_far = c.loop-done.invariant.step v x stands in
      let w = so_far.0 in
      let y = so_far.1 in
      let st = so_far.2 in
      let s = c.in-Some.reset.stream in
      let told = c.in-Some.ensures.answer w st.0 in
      let kept = at_as _ y s _ c.at-kept.ensures st.1 in
      let after : c.reset_by_peer-kept.result ≡ peer_resets (old_waiting w.receiver s) (stream_at y s) =
      c.reset_by_peer-kept.ensures ∙ (ap (λ (n : ℕ). peer_resets n c.at-kept.result) told.1 ∙ ap (λ (z : Stream). peer_resets (old_waiting w.receiver s) z) kept) in (
        _,
        with_reset s (old_waiting w.receiver s) y,
        (c.in-Some.ensures.step w st.0, put_as _ _ y s _ _ c.set.ensures st.1 after, (λ on. absurd (cc on))),
        sym (noted_more c.loop-done.done c.inbound-streams.result w y s c.loop-done-test.true told.0) ∙ so_far.3,
      );
}

pub returns-clause-counts : goal.returns-clause-counts
returns-clause-counts c = c.loop-done.invariant.counts

pub returns-clause-step : goal.returns-clause-step
unfolding ChannelsStand endpoint_of table_of
returns-clause-step c = λ v x stands.
    let so_far = c.loop-done.invariant.step v x stands in
    let w = so_far.0 in
    let y = so_far.1 in
    let most : c.inbound-streams.result ≤ c.loop-done.done = omega (arith, c.loop-done-test.false) in
    let all : all_noted v x ≡ record { view = w; table = y } = sym so_far.3 ∙ noted_all c.loop-done.done c.inbound-streams.result w y most in
    subst (λ (t : Standing). ChannelsStand c.loop-done.self t.view t.table) (sym all) so_far.2
