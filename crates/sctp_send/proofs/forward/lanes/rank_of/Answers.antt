use Rattle.std.proofs.Common.{ℕ, ◌+◌, ◌-◌, ◌/◌, ◌<◌, ◌≤◌, map, get_or, arith}
use Rattle.std.proofs.lemmas.List.{length-map}
use Rattle.sctp_values.specs.declared.kind.Kind.TheVariants.{Ordered}
use Rattle.sctp_send.specs.declared.forward.lanes.Passed.{Passed}
use Rattle.sctp_send.specs.inner.Lanes.{lane_key, passed_meaning}
use Rattle.sctp_send.proofs.forward.LaneWalks.{before_within}
use Rattle.sctp_send.proofs.forward.LaneBytes.{half_above, half_below}
use Rattle.sctp_send.proofs.forward.lanes.rank_of.Goals as goal

pub loop-low-init : goal.loop-low-init
loop-low-init c =
    let within = before_within c.args.key (map passed_meaning c.args.lanes.now) in
    let long = length-map c.args.lanes.now passed_meaning in
    record { low = omega arith; high = omega (arith, within, long); within = omega arith }

pub loop-low-preserved-then-key_of-key : goal.loop-low-preserved-then-key_of-key
loop-low-preserved-then-key_of-key c =
    let so_far = c.loop-low.invariant in
    let none : Passed = record { stream = 0; kind = Ordered; number = 0 } in
    let middle : ℕ = c.loop-low.low + (c.loop-low.high - c.loop-low.low) / 2 in
    let less : lane_key (passed_meaning (get_or c.args.lanes.now middle none)).lane < c.args.key = omega (arith, c.key_of.ensures, c.if-key_of-key.true) in
    let above = half_above c.args.key middle c.args.lanes.now none c.requires (omega (arith, so_far.within)) less in
    record { low = omega (arith, above); high = so_far.high; within = so_far.within }

pub loop-low-preserved : goal.loop-low-preserved
loop-low-preserved c =
    let so_far = c.loop-low.invariant in
    let none : Passed = record { stream = 0; kind = Ordered; number = 0 } in
    let middle : ℕ = c.loop-low.low + (c.loop-low.high - c.loop-low.low) / 2 in
    let more : c.args.key ≤ lane_key (passed_meaning (get_or c.args.lanes.now middle none)).lane = omega (arith, c.key_of.ensures, c.if-key_of-key.false) in
    let below = half_below c.args.key middle c.args.lanes.now none (omega (arith, so_far.within)) more in
    record { low = so_far.low; high = below; within = omega (arith, so_far.within) }
