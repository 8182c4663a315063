use Rattle.std.proofs.Common.{arith, ◌-◌, length, take, drop}
use Rattle.std.proofs.lemmas.List.{get_or-take, length-take-le}
use Rattle.sctp_packet.proofs.BlockLemmas.{part_byte}
use Rattle.sctp_packet.proofs.PairLemmas.{pair_here}
use Rattle.sctp_packet.proofs.folding.fold_pair.Goals as goal

pub slice_bounds-set_block-end : goal.slice_bounds-set_block-end
slice_bounds-set_block-end c = omega (arith, length-take-le 32 c.args.pair.now (omega (arith, c.requires.pair)), c.requires.pair)

pub set_block-requires-clause-bytes : goal.set_block-requires-clause-bytes
set_block-requires-clause-bytes c = length-take-le 32 c.args.pair.now (omega (arith, c.requires.pair))

pub returns-clause-here : goal.returns-clause-here
returns-clause-here c =
    let pair = c.args.pair.now in
    let split = c.split_at_mut-before.ensures in
    let one = c.set_block.ensures in
    pair_here pair c.args.room.now c.split_at_mut-before.result.0.now (take 32 pair) (take (length pair - 32) (drop 32 pair)) c.set_block.new.block c.set_block-2.new.block split.front_len one.length (λ j low. split.by_index.0 j 0 (omega (arith, low))) (λ k low. get_or-take 32 pair k 0 low) (λ k low. part_byte pair 32 (length pair - 32) k (omega (arith, low, c.requires.pair))) one.set c.set_block-2.ensures.set
