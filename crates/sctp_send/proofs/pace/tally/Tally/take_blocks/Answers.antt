use Rattle.std.proofs.Common.{◌≡◌, ◌∙◌, ◌+◌, ◌-◌, ◌<◌, ◌∷◌, ℕ, List, map, max, false, sym, ap, arith}
use Rattle.sctp_model.specs.wire.Chunk.{BlockMeaning}
use Rattle.sctp_model.specs.messages.Acknowledgement.{in_blocks}
use Rattle.sctp_model.specs.sender.SackTaken.{some_is_bad, sack_covers}
use Rattle.sctp_wire.specs.ChunkTree.{block_meaning}
use Rattle.sctp_send.specs.OutstandingFields.{item_meaning}
use Rattle.sctp_send.proofs.pace.TallyLemmas.{tally_skip, idle_off}
use Rattle.sctp_send.proofs.pace.BlockLemmas.{covers_passed, covers_blocks, first_parts, block_covers, block_before, block_beyond}
use Rattle.sctp_send.proofs.pace.tally.Tally.take_blocks.Goals as goal

pub loop-block-init : goal.loop-block-init
loop-block-init c =
    let n = c.args.passed in
    let bs = c.args.blocks.now in
    let t = c.args.self in
    let xs = map (item_meaning c.args.outstanding.now.size) c.args.outstanding.now.items in
    let all : c.into_iter-block-iterator.result ≡ bs = c.into_iter-block-iterator.ensures.into_iter_gives ∙ c.iter-block-items.ensures in
    let at : t.at ≡ n = c.requires in
    let zero_left : t.at - n ≡ 0 = omega (arith, at) in
    record {
      from = omega (arith, at);
      tally = λ lie good before. before;
      here = λ good. covers_passed n t.at bs (omega (arith, at));
      order = λ good. rw (zero_left, all) good;
      rest = λ good j lo. covers_blocks n j bs (omega (arith, at, lo)) ∙ ap (λ (ds : List BlockMeaning). in_blocks n ds j) (sym all);
    }

pub loop-block-preserved : goal.loop-block-preserved
loop-block-preserved c =
    let h = c.loop-block.invariant in
    let n = c.args.passed in
    let b = block_meaning c.in-Some.block in
    let bs = c.next.new.self in
    let t = c.loop-block.tally in
    let s = c.skip.result in
    let u = c.take_gaps-tally.result in
    let on = sack_covers n c.args.blocks.now in
    let xs = map (item_meaning c.args.outstanding.now.size) c.args.outstanding.now.items in
    let from = h.from in
    let steps : c.loop-block.block-iterator ≡ b ∷ bs = c.in-Some.ensures.steps in
    let order : some_is_bad 0 c.args.blocks.now ≡ false → some_is_bad (t.at - n) (b ∷ bs) ≡ false = λ good. ap (λ (ds : List BlockMeaning). some_is_bad (t.at - n) ds) (sym steps) ∙ h.order good in
    let rest : some_is_bad 0 c.args.blocks.now ≡ false → (j : ℕ) → t.at < j → on j ≡ in_blocks n (b ∷ bs) j = λ good j lo. h.rest good j lo ∙ ap (λ (ds : List BlockMeaning). in_blocks n ds j) steps in
    let start : c.from.result ≡ b.start = c.from.ensures in
    let end : c.from-in-loop-block.result ≡ b.end = c.from-in-loop-block.ensures in
    let before : s.at ≡ max t.at (n + (b.start - 1)) = omega (arith, c.skip.ensures.at, c.saturating_sub-before.ensures, start) in
    let behind : u.at ≡ max s.at (n + b.end) = omega (arith, c.take_gaps-tally.ensures.at, end) in
    record {
      from = omega (arith, from, before, behind);
      tally = λ lie good weighed.
          let p = first_parts (t.at - n) b bs (order good) in
          let starts = p.starts in
          c.take_gaps-tally.ensures.tally on lie
          (tally_skip c.args.outstanding.now.header xs on t s (n + c.saturating_sub-before.result) (h.tally lie good weighed)
          (λ j lo hi. idle_off xs on j (rest good j lo ∙ block_before n (t.at - n) j b bs (order good) (omega (arith, hi, c.saturating_sub-before.ensures, start, starts)))) c.skip.ensures.at c.skip.ensures.bytes c.skip.ensures.newest)
          (λ j lo hi. rest good j (omega (arith, lo, before)) ∙ block_covers n j b bs (omega (arith, lo, before, starts)) (omega (arith, hi, end)));
      here = λ good.
          let p = first_parts (t.at - n) b bs (order good) in
          let starts = p.starts in
          let ends = p.ends in
          rest good u.at (omega (arith, before, behind, starts, ends, from)) ∙ block_covers n u.at b bs (omega (arith, before, behind, starts, ends, from)) (omega (arith, before, behind, starts, ends, from));
      order = λ good.
          let p = first_parts (t.at - n) b bs (order good) in
          let starts = p.starts in
          let ends = p.ends in
          let last : u.at - n ≡ b.end = omega (arith, before, behind, starts, ends, from) in
          rw last p.rest;
      rest = λ good j lo. rest good j (omega (arith, lo, before, behind)) ∙ block_beyond n j b bs (omega (arith, lo, behind));
    }
