use Rattle.std.proofs.Common.{◌+◌, ◌<◌, length, take, arith, append-nil, []}
use Rattle.std.proofs.lemmas.Result.{err_from_is_err_and}
use Rattle.std.proofs.lemmas.Grind.{common_steps}
use Rattle.sctp_text.proofs.WritingLemmas.{part_within, part_left, part_joined, part_wanted}
use Rattle.sctp_text.proofs.writing.write_all.Goals as goal

pub returns-in_err-count-clause-cut : goal.returns-in_err-count-clause-cut
returns-in_err-count-clause-cut g c =
    let p = err_from_is_err_and c.from_residual.result c.from_residual.ensures.1 in
    let i = c.loop-rest.invariant in
    let some : 0 < length c.loop-rest.rest.now = grind (arith, common_steps) in
    let written = g.met.W.Sink.writes_more c.args.sink.now c.loop-rest.sink c.write.new.self (take i.0 c.args.bytes.now) [] i.3 c.in_err-count.ensures.bytes in
    rw p.1 (i.0, part_wanted c.args.bytes.now c.loop-rest.rest.now i.0 i.2 some, rw append-nil at written)

pub loop-rest-preserved : goal.loop-rest-preserved
loop-rest-preserved g c =
    let i = c.loop-rest.invariant in
    let bytes = c.args.bytes.now in
    let rest = c.loop-rest.rest.now in
    let count = c.in_ok-count.count in
    let written = g.met.W.Sink.writes_more c.args.sink.now c.loop-rest.sink c.write.new.self (take i.0 bytes) (take count rest) i.3 c.in_ok-count.ensures.bytes in (
      i.0 + count,
      part_within bytes rest i.0 count i.1 i.2 c.in_ok-count.ensures.bound,
      part_left bytes rest i.0 count i.2,
      rw (part_joined bytes rest i.0 count i.2) at written,
      omega (arith, c.in_ok-count.ensures.failed, i.4),
    )
