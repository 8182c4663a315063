use Rattle.std.proofs.Common.{◌≡◌, ◌≤◌, ℕ, ◌∷◌, List, length, true, sym, ap, ◌∙◌, inl, inr, arith}
use Rattle.std.proofs.lemmas.Bool.{cases_lt}
use Rattle.std.proofs.lemmas.Bool.Decides.{nat_tests}
use Rattle.sctp_model.specs.wire.Chunk.{BlockMeaning}
use Rattle.sctp_model.specs.messages.Acknowledgement.{in_blocks}
use Rattle.sctp_wire.specs.ChunkTree.{block_meaning}
use Rattle.sctp_send.specs.declared.kept.entry.CoveredRun.{CoveredRun}
use Rattle.sctp_send.proofs.sack.WakeLemmas.{some_run, in_first, in_others}
use Rattle.sctp_send.proofs.sack.waking.lie_in.Goals as goal

no_run : CoveredRun
no_run = record { from = 0; to = 0 }

pub loop-block-init : goal.loop-block-init
loop-block-init c =
    let all = c.into_iter-block-iterator.ensures.into_iter_gives ∙ c.iter-block-items.ensures in
    record { rest = λ i on. ap (λ (bs : List BlockMeaning). in_blocks 0 bs i) (sym all) ∙ on; inside = λ k i d lt. absurd (omega (arith, lt)) }

pub loop-block-preserved : goal.loop-block-preserved
loop-block-preserved c =
    let before = c.loop-block.invariant in
    let b = block_meaning c.in-Some.block in
    let bs = c.next.new.self in
    let steps : c.loop-block.block-iterator ≡ b ∷ bs = c.in-Some.ensures.steps in
    let there : (i : ℕ) → in_blocks 0 (b ∷ bs) i ≡ true → in_blocks 0 c.args.blocks.now i ≡ true = λ i on. before.rest i (ap (λ (xs : List BlockMeaning). in_blocks 0 xs i) steps ∙ on) in
    record {
      rest = λ i on. there i (in_others b bs i on);
      inside = λ k i d lt within some on. elim (cases_lt k c.loop-block.next) [
        | inl old ↦ before.inside k i d old within some on
        | inr new ↦ there i (in_first b bs i (c.first_outside-next.ensures.inside k i d new lt within some on))
      ];
    }

pub returns : goal.returns
returns c = λ all i some on.
    let past : length c.args.runs.now ≤ c.loop-block.next = grind (arith, nat_tests, all) in
    let run = some_run c.args.passed i c.args.runs.now no_run on in
    c.loop-block.invariant.inside run.0 i no_run (omega (arith, past, run.1)) run.1 some run.2
