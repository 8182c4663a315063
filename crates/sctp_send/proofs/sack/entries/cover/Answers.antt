use Rattle.std.proofs.Common.{◌≡◌, ◌-◌, ◌∷◌, [], length, true, false, refl, ◌∙◌}
use Rattle.sctp_model.specs.messages.Acknowledgement.{in_blocks}
use Rattle.sctp_wire.specs.ChunkTree.{block_meaning}
use Rattle.sctp_send.specs.inner.Changes.{told_at, is_between}
use Rattle.sctp_send.proofs.sack.EachLemmas.{length-each}
use Rattle.sctp_send.proofs.sack.TellLemmas.{where_none, told_anew, block_told}
use Rattle.sctp_send.proofs.sack.CoverLemmas.{no_fault, good_block, short_block}
use Rattle.sctp_send.proofs.sack.entries.cover.Goals as goal

pub loop-block-init : goal.loop-block-init
loop-block-init c =
    let before = c.args.outstanding.now.items in
    let all = c.into_iter-block-iterator.ensures.into_iter_gives ∙ c.iter-block-items.ensures in
    let good = no_fault (length before) c.args.blocks.now c.requires in
    rw (c.tell_run.ensures, all) (record {
      last = 0;
      ordered = good.1;
      inside = good.0;
      count = length-each (told_at false (is_between 0 c.len-last.result)) 1 before;
      room = record { size = refl; header = refl; capacity = refl };
      told = rw c.len-last.ensures (told_anew (in_blocks 0 c.args.blocks.now) before);
    })

pub loop-block-preserved : goal.loop-block-preserved
loop-block-preserved c =
    let so_far = c.loop-block.invariant in
    let b = block_meaning c.in-Some.block in
    let bs = c.next.new.self in
    let steps : c.loop-block.block-iterator ≡ b ∷ bs = c.in-Some.ensures.steps in
    let good = good_block so_far.last b bs (rw steps at so_far.ordered) in
    let short = short_block (length c.args.outstanding.now.items) b bs (rw steps at so_far.inside) in
    let now = c.loop-block.outstanding.items in
    rw (c.tell_run-in-loop-block.ensures, c.from.ensures, c.from-in-loop-block.ensures) (record {
      last = b.end;
      ordered = good.2;
      inside = short.1;
      count = length-each (told_at true (is_between (b.start - 1) b.end)) 1 now ∙ so_far.count;
      room = record { size = so_far.room.size; header = so_far.room.header; capacity = so_far.room.capacity };
      told = block_told b bs now ∙ (rw steps at so_far.told);
    })

pub returns-clause-covered : goal.returns-clause-covered
returns-clause-covered c =
    let none : c.loop-block.block-iterator ≡ [] = c.in-None.ensures.steps.0 in
    where_none true (λ i. false) 1 c.loop-block.outstanding.items (λ j lo. refl) ∙ (rw none at c.loop-block.invariant.told)
