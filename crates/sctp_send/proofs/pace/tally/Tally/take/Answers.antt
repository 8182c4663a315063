use Rattle.std.proofs.Common.{◌≡◌, ◌+◌, ◌-◌, ◌<◌, suc, length, map, arith}
use Rattle.sctp_send.specs.OutstandingFields.{item_meaning}
use Rattle.sctp_send.specs.inner.Weighing.{is_item_open}
use Rattle.sctp_send.proofs.pace.HereLemmas.{item_read, here_past}
use Rattle.sctp_send.proofs.pace.TallyLemmas.{tally_with, tally_skip, idle_closed}
use Rattle.sctp_send.proofs.pace.tally.Tally.take.Goals as goal

pub loop-at-preserved : goal.loop-at-preserved
loop-at-preserved c =
    let h = c.loop-at.invariant in
    let es = c.args.outstanding.now.items in
    let size = c.args.outstanding.now.size in
    let t = c.loop-at.tally in
    let u = c.with-tally.result in
    let lt : t.at < length es = omega (arith, h.here, h.within, c.loop-at-test.true) in
    let read = item_read size es t.at c.get.result.now lt (rw h.here c.get.ensures) in
    record {
      here = omega (arith, c.with-tally.ensures.at, h.here);
      size = h.size;
      header = h.header;
      within = h.within;
      below = h.below;
      upto = omega (arith, c.loop-at-test.true);
      tally = λ on before all.
          let one : suc t.at ≡ c.loop-at.at + 1 = omega (arith, h.here) in
          tally_with c.args.outstanding.now.header (map (item_meaning size) es) on t u (item_meaning size c.get.result.now) (h.tally on before (λ j lo hi. all j lo (omega (arith, hi)))) (all (suc t.at) (omega (arith, h.here, c.loop-at.auto.at)) (omega (arith, one))) read c.with-tally.ensures.at
          (rw (← h.size, ← h.header) c.with-tally.ensures.bytes) c.with-tally.ensures.newest;
    }

pub returns-clause-at : goal.returns-clause-at
returns-clause-at c = let h = c.loop-at.invariant in omega (arith, c.skip.ensures.at, h.here, h.upto, h.below, c.loop-at.auto.at, c.loop-at-test.false)

pub returns-clause-tally : goal.returns-clause-tally
returns-clause-tally c = λ on before all.
    let h = c.loop-at.invariant in
    let es = c.args.outstanding.now.items in
    let size = c.args.outstanding.now.size in
    let t = c.loop-at.tally in
    tally_skip c.args.outstanding.now.header (map (item_meaning size) es) on t c.skip.result c.args.to (h.tally on before (λ j lo hi. all j lo (omega (arith, lo, hi, h.upto, h.below))))
    (λ j lo hi. idle_closed (map (item_meaning size) es) on j (here_past is_item_open size es (j - 1) (omega (arith, lo, hi, h.here, c.loop-at-test.false, c.min-at-end.ensures, c.len.ensures)))) c.skip.ensures.at c.skip.ensures.bytes c.skip.ensures.newest
