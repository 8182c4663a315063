use Rattle.std.proofs.Common.{arith}
use Rattle.sctp_model.specs.sender.SackTaken.{sack_covers}
use Rattle.sctp_send.proofs.pace.BlockLemmas.{covers_passed, covers_none}
use Rattle.sctp_send.proofs.pace.tally.Tally.of_blocks.Goals as goal

pub returns-then-len-eq0 : goal.returns-then-len-eq0
returns-then-len-eq0 c = λ lie good.
    let n = c.args.passed in
    let bs = c.args.blocks.now in
    let at = c.of_passed-tally.ensures.at in
    record {
      tally = c.of_passed-tally.ensures.tally (sack_covers n bs) (λ j lo hi. covers_passed n j bs hi);
      here = covers_passed n c.of_passed-tally.result.at bs (omega (arith, at));
      beyond = λ j lo. covers_none n j bs (omega (arith, c.if-len-eq0.true, c.len.ensures.count)) (omega (arith, lo, at));
    }

pub returns : goal.returns
returns c = λ lie good.
    let n = c.args.passed in
    let bs = c.args.blocks.now in
    c.take_blocks.ensures lie good (c.of_passed-tally.ensures.tally (sack_covers n bs) (λ j lo hi. covers_passed n j bs hi))
