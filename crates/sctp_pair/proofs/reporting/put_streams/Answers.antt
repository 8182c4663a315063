use Rattle.std.proofs.Common.{◌≡◌, ◌+◌, suc, arith}
use Rattle.sctp_events.specs.Events.{side_meaning}
use Rattle.sctp_pair.proofs.ReportLemmas.{stream_more}
use Rattle.sctp_pair.proofs.reporting.put_streams.Goals as goal

pub loop-stream-preserved : goal.loop-stream-preserved
loop-stream-preserved c = λ v stands.
    let n = c.loop-stream.stream in
    let next : n + 1 ≡ suc n = omega arith in
    rw next (stream_more (side_meaning c.args.name) v.end.receiver n c.in_ok-log.log c.loop-stream.out.items c.args.out.now.items c.put_handed.new.out.items _
    (c.in_ok-log.ensures v stands) (c.loop-stream.invariant v stands) (rw c.deref.ensures.value at c.in_ok-put_handed.ensures.put) c.in_ok-put_count.ensures.put)
