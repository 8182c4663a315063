use Rattle.std.proofs.Common.{◌≡◌, length, take, arith}
use Rattle.std.proofs.lemmas.List.{length-take-le}
use Rattle.sctp_send.proofs.kept.FateLemmas.{alike_block, each_block}
use Rattle.sctp_send.proofs.kept.blocks.block_of.Goals as goal

pub returns-then-are_alike-clause-block : goal.returns-then-are_alike-clause-block
returns-then-are_alike-clause-block c =
    let long : length (take 4096 c.args.recent.now) ≡ 4096 = length-take-le 4096 c.args.recent.now c.requires in
    alike_block (take 4096 c.args.recent.now) c.args.mixed.now.items _ long (c.are_alike.ensures c.if-are_alike.true)

pub returns-in-Ok-clause-block : goal.returns-in-Ok-clause-block
returns-in-Ok-clause-block c =
    let long : length (take 4096 c.args.recent.now) ≡ 4096 = length-take-le 4096 c.args.recent.now c.requires in
    each_block (take 4096 c.args.recent.now) c.args.mixed.now.items _ c.len-start.result long (omega (arith, c.len-start.ensures, c.args.mixed.now.ok)) c.in-Ok.ensures.items
