use Rattle.std.proofs.Common.{◌≡◌, ◌+◌, ◌%◌, arith}
use Rattle.sctp_packet.specs.Folding.{IsFolded}
use Rattle.sctp_packet.proofs.RoomLemmas.{folded_block}
use Rattle.sctp_packet.proofs.folding.fold_odd.Goals as goal

pub returns-then-ends-ne0-clause-folded : goal.returns-then-ends-ne0-clause-folded
returns-then-ends-ne0-clause-folded c = λ r small first.
    let block = c.fold_block.ensures in
    let odd : 128 + 32 ≡ 128 + c.args.ends % 64 = omega (arith, c.requires.blocks, c.if-ends-ne0.true) in
    let folded : IsFolded r c.args.bytes.now (128 + 32) c.fold_block.new.room =
    folded_block r c.args.bytes.now c.args.room.now c.fold_block.new.room 128 small (omega arith) first block.before block.here block.behind in
    rw odd at folded

pub returns-else-ends-ne0-clause-folded : goal.returns-else-ends-ne0-clause-folded
returns-else-ends-ne0-clause-folded c = λ r small first.
    let even : 128 ≡ 128 + c.args.ends % 64 = omega (arith, c.if-ends-ne0.false) in
    rw even at first
