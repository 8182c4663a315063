use Rattle.std.proofs.Common.{map, refl, arith}
use Rattle.sctp_send.specs.OutstandingFields.{item_meaning}
use Rattle.sctp_send.specs.declared.kept.entry.CoveredRun.{CoveredRun}
use Rattle.sctp_send.proofs.pace.TallyLemmas.{tally_same, run_skipped}
use Rattle.sctp_send.proofs.pace.tally.Tally.take_gaps.Goals as goal

abbrev no_run : CoveredRun
no_run = record { from = 0; to = 0 }

pub loop-next-preserved : goal.loop-next-preserved
loop-next-preserved c =
    let h = c.loop-next.invariant in
    let xs = map (item_meaning c.args.outstanding.now.size) c.args.outstanding.now.items in
    record {
      from = omega (arith, h.from, c.take.ensures.at, c.skip-tally.ensures.at);
      upto = omega (arith, h.upto, c.take.ensures.at, c.skip-tally.ensures.at, c.min.ensures, c.min-in-loop-next.ensures);
      tally = λ on runs before all.
          let weighed = c.take.ensures.tally on (h.tally on runs before all) (λ j lo hi. all j (omega (arith, lo, h.from)) (omega (arith, hi, c.min.ensures))) in
          run_skipped c.args.outstanding.now.header xs on c.args.runs.now c.loop-next.next c.args.to c.min.result c.min-in-loop-next.result no_run c.loop-next.tally c.take.result c.skip-tally.result runs c.loop-next-test.true (rw (← c.from.ensures) c.min.ensures) (rw (← c.from-end.ensures) c.min-in-loop-next.ensures)
          weighed c.take.ensures.at c.skip-tally.ensures.at c.skip-tally.ensures.bytes c.skip-tally.ensures.newest;
    }

pub returns-then-to-end-clause-tally : goal.returns-then-to-end-clause-tally
returns-then-to-end-clause-tally c = λ on runs before all.
    let h = c.loop-next.invariant in
    let xs = map (item_meaning c.args.outstanding.now.size) c.args.outstanding.now.items in
    let weighed = c.take.ensures.tally on (h.tally on runs before all) (λ j lo hi. all j (omega (arith, lo, h.from)) (omega (arith, hi, c.min.ensures))) in
    let skipped = run_skipped c.args.outstanding.now.header xs on c.args.runs.now c.loop-next.next c.args.to c.min.result c.min-in-loop-next.result no_run c.loop-next.tally c.take.result c.skip-tally.result runs c.loop-next-test.true (rw (← c.from.ensures) c.min.ensures) (rw (← c.from-end.ensures) c.min-in-loop-next.ensures)
    weighed c.take.ensures.at c.skip-tally.ensures.at c.skip-tally.ensures.bytes c.skip-tally.ensures.newest in
    tally_same c.args.outstanding.now.header xs on c.skip-tally.result _ skipped refl refl refl

pub returns-clause-tally : goal.returns-clause-tally
returns-clause-tally c = λ on runs before all.
    let h = c.loop-next.invariant in
    let xs = map (item_meaning c.args.outstanding.now.size) c.args.outstanding.now.items in
    tally_same c.args.outstanding.now.header xs on c.take-2.result _ (c.take-2.ensures.tally on (h.tally on runs before all) (λ j lo hi. all j (omega (arith, lo, h.from)) hi)) refl refl refl
