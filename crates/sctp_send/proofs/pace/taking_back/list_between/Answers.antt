use Rattle.std.proofs.Common.{◌≡◌, ◌∙◌, ◌++◌, ◌+◌, ◌-◌, ◌<◌, suc, [], ◌∷◌, List, ℕ, Bool, map, false, sym, ap, arith, append-nil}
use Rattle.std.specs.Prelude.{Result, Ok, Err, OnOk}
use Rattle.sctp_model.specs.wire.Chunk.{BlockMeaning}
use Rattle.sctp_model.specs.messages.Acknowledgement.{in_blocks}
use Rattle.sctp_model.specs.sender.SackTaken.{some_is_bad, sack_covers}
use Rattle.sctp_wire.specs.ChunkTree.{block_meaning}
use Rattle.sctp_send.specs.OutstandingFields.{item_meaning}
use Rattle.sctp_send.specs.inner.Testing.{index_of, offsets_that}
use Rattle.sctp_send.specs.inner.Weighing.{is_item_acked, passes_here, is_uncovered}
use Rattle.sctp_send.proofs.pace.HereLemmas.{here_past}
use Rattle.sctp_send.proofs.pace.BlockLemmas.{covers_passed, covers_blocks, first_parts, block_covers, block_before, block_beyond}
use Rattle.sctp_send.proofs.pace.OffsetLemmas.{offsets_none, listed_on}
use Rattle.sctp_send.proofs.pace.BackLemmas.{good_blocks, none_uncovered, last_uncovered, gap_uncovered}
use Rattle.sctp_send.proofs.pace.taking_back.list_between.Goals as goal

pub loop-block-init : goal.loop-block-init
loop-block-init c =
    let n = c.args.passed in
    let bs = c.args.blocks.now in
    let all : c.into_iter-block-iterator.result ≡ bs = c.into_iter-block-iterator.ensures.into_iter_gives ∙ c.iter-block-items.ensures in
    let zero_left : n - n ≡ 0 = omega arith in
    record {
      from = omega arith;
      listed = λ size.
          let xs = map (item_meaning size) c.args.outstanding.now.items in
          sym (append-nil c.args.back.now.items)
          ∙ ap (λ (ks : List ℕ). c.args.back.now.items ++ map (index_of c.args.cum) ks) (sym (offsets_none (is_uncovered xs n bs) 0 n (λ k lo hi. none_uncovered xs n bs k (covers_passed n (suc k) bs (omega (arith, hi))))));
      order = rw (zero_left, all) (good_blocks _ bs c.requires.blocks);
      rest = λ j lo. covers_blocks n j bs lo ∙ ap (λ (ds : List BlockMeaning). in_blocks n ds j) (sym all);
    }

pub loop-block-preserved : goal.loop-block-preserved
loop-block-preserved c =
    let h = c.loop-block.invariant in
    let n = c.args.passed in
    let bs = c.args.blocks.now in
    let b = block_meaning c.in-Some.block in
    let ds = c.next.new.self in
    let from = h.from in
    let steps : c.loop-block.block-iterator ≡ b ∷ ds = c.in-Some.ensures.steps in
    let order : some_is_bad (c.loop-block.at - n) (b ∷ ds) ≡ false = ap (λ (cs : List BlockMeaning). some_is_bad (c.loop-block.at - n) cs) (sym steps) ∙ h.order in
    let rest : (j : ℕ) → c.loop-block.at < j → sack_covers n bs j ≡ in_blocks n (b ∷ ds) j = λ j lo. h.rest j lo ∙ ap (λ (cs : List BlockMeaning). in_blocks n cs j) steps in
    let start : c.from.result ≡ b.start = c.from.ensures in
    let end : c.from-in-loop-block.result ≡ b.end = c.from-in-loop-block.ensures in
    let p = first_parts (c.loop-block.at - n) b ds order in
    let starts = p.starts in
    let ends = p.ends in
    let last : n + b.end - n ≡ b.end = omega arith in
    record {
      from = omega (arith, end);
      listed = λ size.
          let xs = map (item_meaning size) c.args.outstanding.now.items in
          let t : ℕ → Bool = passes_here is_item_acked xs in
          listed_on c.args.cum c.args.back.now.items _ _ (offsets_that (is_uncovered xs n bs) 0 c.loop-block.at) (offsets_that t c.loop-block.at (n + c.saturating_sub-before.result - c.loop-block.at)) _ (h.listed size) (c.in_ok-list_acked.ensures size)
          (gap_uncovered xs n bs c.loop-block.at (n + c.saturating_sub-before.result) (n + c.from-in-loop-block.result) (omega (arith, from, start, starts, c.saturating_sub-before.ensures)) (omega (arith, start, end, ends, c.saturating_sub-before.ensures))
          (λ k lo hi. rest (suc k) (omega (arith, lo)) ∙ block_before n (c.loop-block.at - n) (suc k) b ds order (omega (arith, hi, c.saturating_sub-before.ensures, start, starts)))
          (λ k lo hi. rest (suc k) (omega (arith, lo, from, start, starts, c.saturating_sub-before.ensures)) ∙ block_covers n (suc k) b ds (omega (arith, lo, start, starts, c.saturating_sub-before.ensures)) (omega (arith, hi, end))));
      order = rw (end, last) p.rest;
      rest = λ j lo. rest j (omega (arith, lo, end, from, starts, ends)) ∙ block_beyond n j b ds (omega (arith, lo, end));
    }

on_ok_then : {A E : Type 0} (P Q : Type 0) (r : Result A E) → (P → Q) → OnOk r P → OnOk r Q
on_ok_then P Q (Ok x) next said = next said
on_ok_then P Q (Err e) next said = said

pub returns : goal.returns
returns c = λ size.
    let h = c.loop-block.invariant in
    let n = c.args.passed in
    let bs = c.args.blocks.now in
    let es = c.args.outstanding.now.items in
    let xs = map (item_meaning size) es in
    let rest : (j : ℕ) → c.loop-block.at < j → sack_covers n bs j ≡ in_blocks n [] j = λ j lo. h.rest j lo ∙ ap (λ (cs : List BlockMeaning). in_blocks n cs j) c.in-None.ensures.steps.0 in
    on_ok_then _ _ c.list_acked-2.result
    (λ now. listed_on c.args.cum c.args.back.now.items _ _ (offsets_that (is_uncovered xs n bs) 0 c.loop-block.at) (offsets_that (passes_here is_item_acked xs) c.loop-block.at (c.len.result - c.loop-block.at)) _ (h.listed size) now
    (ap (offsets_that (is_uncovered xs n bs) 0) (sym c.len.ensures) ∙ last_uncovered xs n bs c.loop-block.at c.len.result (λ k le. here_past is_item_acked size es k (omega (arith, le, c.len.ensures))) (λ k lo. rest (suc k) (omega (arith, lo)))))
    (c.list_acked-2.ensures size)
