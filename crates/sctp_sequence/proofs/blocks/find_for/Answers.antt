use Rattle.std.proofs.Common.{◌≡◌, ◌+◌, ◌<◌, get_or, arith}
use Rattle.std.specs.Vec.{vec_len}
use Rattle.sctp_sequence.proofs.StartLemmas.{lies_within}
use Rattle.sctp_sequence.proofs.blocks.find_for.Goals as goal

pub returns-clause-offset : goal.returns-clause-offset
returns-clause-offset g c = λ b.
    let blocks = c.args.blocks.now in
    let low = c.loop-high.low in
    let inv = c.loop-high.invariant in
    let next : c.loop-high.high ≡ low + 1 = omega (arith, inv.some, c.loop-high-test.false) in
    let within : low < vec_len blocks = omega (arith, inv.within, inv.some, blocks.ok) in
    let lies = lies_within blocks.items (vec_len blocks) low c.loop-high.high c.args.at c.index-2.result.now c.args.starts.now.items (omega (arith, blocks.ok)) within next c.requires.starts c.index-2.ensures inv.from inv.below c.requires.at b in
    let block = get_or blocks.items low b in
    omega (arith, lies.0, block.ok)

pub returns-clause-there : goal.returns-clause-there
returns-clause-there g c = λ there b.
    let blocks = c.args.blocks.now in
    let low = c.loop-high.low in
    let inv = c.loop-high.invariant in
    let next : c.loop-high.high ≡ low + 1 = omega (arith, inv.some, c.loop-high-test.false) in
    let within : low < vec_len blocks = omega (arith, inv.within, inv.some, blocks.ok) in
    let lies = lies_within blocks.items (vec_len blocks) low c.loop-high.high c.args.at c.index-2.result.now c.args.starts.now.items (omega (arith, blocks.ok)) within next c.requires.starts c.index-2.ensures inv.from inv.below c.requires.at b in
    let block = get_or blocks.items low b in
    omega (arith, lies.1 there, block.ok)
