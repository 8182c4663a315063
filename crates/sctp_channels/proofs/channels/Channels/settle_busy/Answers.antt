use Rattle.std.proofs.Common.{◌≡◌, ◌<◌, ◌≤◌, length, refl, sym, subst, ◌∙◌, arith}
use Rattle.sctp_channels.specs.declared.channels.Channels.{Channels}
use Rattle.sctp_channels.specs.Settling.{Standing}
use Rattle.sctp_channels.specs.ChannelsStand.{ChannelsStand, endpoint_of, table_of}
use Rattle.sctp_channels.proofs.BusyLemmas.{nothing_due}
use Rattle.sctp_channels.proofs.TableLemmas.{busy_of}
use Rattle.sctp_channels.proofs.SettlingLemmas.{settled_more, settled_idle, settled_rest}
use Rattle.sctp_channels.proofs.channels.Channels.settle_busy.Goals as goal

pub loop-stream-init : goal.loop-stream-init
unfolding ChannelsStand endpoint_of table_of
loop-stream-init c = record {
  counts = refl;
  step = λ v x stands.
      let r = c.args.self.now.table.busy in
      let holds = busy_of c.args.self.now.table x stands.1 in
      let idle = settled_idle r.low v x (let a = holds.0 in let b = holds.1 in omega (arith, a, b)) (λ q less. nothing_due x r q holds (λ in_r. let low = in_r.0 in omega (arith, low, less))) in
      subst (λ (t : Standing). ChannelsStand c.args.self.now t.view t.table) (sym idle) stands;
}

pub returns-in-Err-clause-step : goal.returns-in-Err-clause-step
unfolding ChannelsStand endpoint_of table_of
returns-in-Err-clause-step c = λ v x stands.
    let holds = busy_of c.args.self.now.table x stands.1 in
    let there : c.loop-stream.stream < length x.streams = let b = holds.1 in omega (arith, c.loop-stream-test.true, b) in
    (c.loop-stream.stream, there, c.in-Err.ensures.step _ _ (c.loop-stream.invariant.step v x stands))

pub returns-in-Err-clause-counts : goal.returns-in-Err-clause-counts
returns-in-Err-clause-counts c = c.in-Err.ensures.counts ∙ c.loop-stream.invariant.counts

pub loop-stream-preserved : goal.loop-stream-preserved
unfolding ChannelsStand endpoint_of table_of
loop-stream-preserved c = record {
  counts = c.in-Ok.ensures.counts ∙ c.loop-stream.invariant.counts;
  step = λ v x stands.
      let holds = busy_of c.args.self.now.table x stands.1 in
      let there : c.loop-stream.stream < length x.streams = let b = holds.1 in omega (arith, c.loop-stream-test.true, b) in
      subst (λ (t : Standing). ChannelsStand c.settle_one.new.self t.view t.table) (sym (settled_more c.loop-stream.stream v x there))
      (c.in-Ok.ensures.step _ _ (c.loop-stream.invariant.step v x stands));
}

pub returns-clause-counts : goal.returns-clause-counts
unfolding endpoint_of
returns-clause-counts c = c.loop-stream.invariant.counts

pub returns-clause-step : goal.returns-clause-step
unfolding ChannelsStand endpoint_of table_of
returns-clause-step c = λ v x stands.
    let r = c.args.self.now.table.busy in
    let at = c.loop-stream.stream in
    let holds = busy_of c.args.self.now.table x stands.1 in
    let past : at ≡ r.high = omega (arith, c.loop-stream-test.false, c.loop-stream.auto.stream-end, c.args.self.now.table.busy_fits.0) in
    let most : at ≤ length x.streams = let b = holds.1 in omega (arith, past, b) in
    let all = settled_rest at v x most (λ q low. nothing_due x r q holds (λ in_r. let high = in_r.1 in omega (arith, past, low, high))) in
    let new : Channels = record { alloc = c.loop-stream.self.alloc; endpoint = c.loop-stream.self.endpoint; table = c.shorten.new.self; is_calm = c.loop-stream.self.is_calm } in
    let so_far = c.loop-stream.invariant.step v x stands in
    subst (λ (t : Standing). ChannelsStand new t.view t.table) all (so_far.0, c.shorten.ensures ∙ so_far.1, so_far.2)
