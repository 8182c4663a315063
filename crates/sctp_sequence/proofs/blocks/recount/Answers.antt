use Rattle.std.proofs.Common.{◌+◌, ◌<◌, length, arith}
use Rattle.sctp_sequence.proofs.JoinedLemmas.{count_more, count_within}
use Rattle.sctp_sequence.proofs.blocks.recount.Goals as goal

pub overflow_add-count : goal.overflow_add-count
overflow_add-count g c =
    let bs = c.args.blocks.now.items in
    let b = c.index.result.now in
    let less : c.loop-block.block < length bs = omega (arith, c.args.blocks.now.ok, c.loop-block-test.true, c.len-block-end.ensures) in
    let more = count_more bs c.loop-block.block b less c.index.ensures in
    omega (arith, more, count_within bs (c.loop-block.block + 1), c.loop-block.invariant.count, c.len-count.ensures, b.ok, c.requires.small)
