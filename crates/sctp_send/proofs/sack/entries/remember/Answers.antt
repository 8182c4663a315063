use Rattle.std.proofs.Common.{◌≡◌, ℕ, ◌-◌, List, ◌∷◌, [], ◌++◌, true, false, refl, sym, ap, ◌∙◌, is_ok, subst, arith}
use Rattle.std.specs.Prelude.{◌||◌, Result, Ok, Err, is_err}
use Rattle.sctp_model.specs.wire.Chunk.{BlockMeaning}
use Rattle.sctp_model.specs.messages.Acknowledgement.{in_blocks}
use Rattle.sctp_model.specs.sender.SackTaken.{some_is_bad}
use Rattle.sctp_wire.specs.ChunkTree.{block_meaning}
use Rattle.sctp_send.specs.CoveredRuns.{in_runs, AreInOrder}
use Rattle.sctp_send.specs.declared.kept.entry.CoveredRun.{CoveredRun}
use Rattle.sctp_send.proofs.sack.CoverLemmas.{good_block}
use Rattle.sctp_send.proofs.sack.RunLemmas.{end_of, end_more, order_more, remembered_more}
use Rattle.sctp_send.proofs.sack.entries.remember.Goals as goal

went_in : {A E : Type 0} (r : Result A E) → is_err r ≡ false → is_ok r ≡ true
went_in (Ok x) off = refl
went_in (Err e) off = absurd (cc)

pub loop-block-init : goal.loop-block-init
loop-block-init c =
    let all = c.into_iter-block-iterator.ensures.into_iter_gives ∙ c.iter-block-items.ensures in
    let none : c.clear.new.self.items ≡ [] = c.clear.ensures.items in
    record { order = rw none tt; behind = rw (none, all) c.requires; same = λ i some. rw (none, all) refl }

pub loop-block-preserved : goal.loop-block-preserved
loop-block-preserved c =
    let before = c.loop-block.invariant in
    let b = block_meaning c.in-Some.block in
    let bs = c.next.new.self in
    let runs = c.loop-block.runs.items in
    let run : CoveredRun = record { from = c.saturating_sub.result; to = c.in-Some.block.end } in
    let ok = went_in c.push.result (sym c.is_err.ensures.value ∙ c.if-is_err.false) in
    let pushed : c.push.new.self.items ≡ runs ++ run ∷ [] = rw (c.push.ensures.items, ok) refl in
    let from : run.from ≡ b.start - 1 = c.saturating_sub.ensures in
    let to : run.to ≡ b.end = refl in
    let steps : c.loop-block.block-iterator ≡ b ∷ bs = c.in-Some.ensures.steps in
    let good : some_is_bad (end_of 0 runs) (b ∷ bs) ≡ false = rw steps at before.behind in
    let next = good_block (end_of 0 runs) b bs good in
    record {
      order = subst (λ (rs : List CoveredRun). AreInOrder 0 rs) (sym pushed) (order_more 0 runs run before.order (omega (arith, next.0, from)) (omega (arith, next.1, from, to)));
      behind = ap (λ (rs : List CoveredRun). some_is_bad (end_of 0 rs) bs) pushed ∙ ap (λ (n : ℕ). some_is_bad n bs) (end_more 0 runs run ∙ to) ∙ next.2;
      same = λ i some.
          ap (λ (rs : List CoveredRun). in_runs rs i || in_blocks 0 bs i) pushed ∙ remembered_more runs run b bs i some from to
          ∙ ap (λ (xs : List BlockMeaning). in_runs runs i || in_blocks 0 xs i) (sym steps) ∙ before.same i some;
    }
