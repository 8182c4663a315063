use Rattle.std.proofs.Common.{◌+◌, ◌-◌, arith, ◌∙◌, length}
use Rattle.std.proofs.lemmas.Grind.{common_steps}
use Rattle.std.proofs.lemmas.List.{length-take-le}
use Rattle.sctp_packet.proofs.BlockLemmas.{part_byte, block_of, joined_here, joined_behind}
use Rattle.sctp_packet.proofs.folding.fold_block.Goals as goal

pub slice_bounds-set_block-end-4 : goal.slice_bounds-set_block-end-4
slice_bounds-set_block-end-4 c =
    omega (arith, length-take-le 32 c.split_at_mut-before.result.1.now (omega (arith, c.split_at_mut-before.ensures.back_len, c.requires.room)))

pub set_block-requires-clause-block : goal.set_block-requires-clause-block
set_block-requires-clause-block c =
    length-take-le 32 c.split_at_mut-before.result.1.now (omega (arith, c.split_at_mut-before.ensures.back_len, c.requires.room))

pub set_block-requires-clause-zeros : goal.set_block-requires-clause-zeros
set_block-requires-clause-zeros c = λ j high low.
    let at = c.args.at in
    let front = c.split_at_mut-before.result.0.now in
    let split = c.split_at_mut-before.ensures in
    part_byte front at (length front - at) j (omega (arith, low, split.front_len)) ∙ (split.by_index.0 (at + j) 0 (omega (arith, low)) ∙ c.requires.zeros (at + j) (omega (arith, high)) (omega (arith, low)))

pub returns-clause-here : goal.returns-clause-here
returns-clause-here c = λ k few.
    let at = c.args.at in
    let front = c.split_at_mut-before.result.0.now in
    let split = c.split_at_mut-before.ensures in
    joined_here front c.set_block.new.block _ (216 + at) k split.front_len c.set_block.ensures.length few
    ∙ (c.set_block.ensures.set k few
    ∙ block_of c.args.bytes.now c.args.room.now _ _ at k few (λ j lt. part_byte c.args.bytes.now at (at + 32 - at) j (omega (arith, lt)))
    (λ j lt. part_byte front at (length front - at) j (omega (arith, lt, split.front_len)) ∙ split.by_index.0 (at + j) 0 (omega (arith, lt))))

pub returns-clause-behind : goal.returns-clause-behind
returns-clause-behind c = λ j high.
    let split = c.split_at_mut-before.ensures in
    joined_behind c.split_at_mut-before.result.0.now c.set_block.new.block c.split_at_mut-before.result.1.now c.args.room.now (216 + c.args.at) j split.front_len c.set_block.ensures.length (λ k. split.by_index.1 k 0) high

pub returns-clause-before : goal.returns-clause-before
returns-clause-before c = grind (arith, common_steps)
