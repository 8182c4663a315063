use Rattle.std.proofs.Common.{◌≡◌, ◌≤◌, length, refl, sym, subst, ◌∙◌, arith}
use Rattle.sctp_channels.specs.Streams.{Table}
use Rattle.sctp_channels.specs.ChannelsStand.{ChannelsStand, endpoint_of, table_of}
use Rattle.sctp_channels.proofs.BusyLemmas.{gone_fails}
use Rattle.sctp_channels.proofs.TableLemmas.{busy_of}
use Rattle.sctp_channels.proofs.SweepingLemmas.{swept_more, swept_idle, swept_rest}
use Rattle.sctp_channels.proofs.channels.Channels.sweep_busy.Goals as goal

pub loop-stream-init : goal.loop-stream-init
unfolding ChannelsStand endpoint_of table_of
loop-stream-init c = record {
  counts = refl;
  step = λ v x stands.
      let r = c.args.self.now.table.busy in
      let holds = busy_of c.args.self.now.table x stands.1 in
      let idle = swept_idle r.low v x (λ q less. gone_fails v x r q holds (λ in_r. let low = in_r.0 in omega (arith, low, less))) in
      subst (λ (t : Table). ChannelsStand c.args.self.now v t) (sym idle) stands;
}

pub loop-stream-preserved : goal.loop-stream-preserved
unfolding ChannelsStand endpoint_of table_of
loop-stream-preserved c = record {
  counts = c.sweep_one.ensures.counts ∙ c.loop-stream.invariant.counts;
  step = λ v x stands.
      subst (λ (t : Table). ChannelsStand c.sweep_one.new.self v t) (sym (swept_more c.loop-stream.stream v x)) (c.sweep_one.ensures.step v _ (c.loop-stream.invariant.step v x stands));
}

pub returns-clause-counts : goal.returns-clause-counts
returns-clause-counts c = c.loop-stream.invariant.counts

pub returns-clause-step : goal.returns-clause-step
unfolding ChannelsStand endpoint_of table_of
returns-clause-step c = λ v x stands.
    let r = c.args.self.now.table.busy in
    let at = c.loop-stream.stream in
    let holds = busy_of c.args.self.now.table x stands.1 in
    let past : at ≡ r.high = omega (arith, c.loop-stream-test.false, c.loop-stream.auto.stream-end, c.args.self.now.table.busy_fits.0) in
    let most : at ≤ length x.streams = let b = holds.1 in omega (arith, past, b) in
    let all = swept_rest at v x most (λ q low. gone_fails v x r q holds (λ in_r. let high = in_r.1 in omega (arith, past, low, high))) in
    subst (λ (t : Table). ChannelsStand c.loop-stream.self v t) all (c.loop-stream.invariant.step v x stands)
