use Rattle.sctp_recv.specs.Resets.{restart_in, resets_in}
use Rattle.sctp_recv.proofs.EntryLemmas.{count_more}
use Rattle.sctp_recv.proofs.entries.all_count.Goals as goal

pub loop-skip-preserved : goal.loop-skip-preserved
loop-skip-preserved g c =
    count_more g.F.Framing.format (restart_in (resets_in c.args.resets.now)) c.args.streams.now.items c.args.entries.now c.loop-skip.skip-index _ c.loop-skip-test.true c.loop-skip.invariant
    (c.skips_count.ensures c.if-not-skips_count.false)
