use Rattle.std.proofs.Common.{◌≡◌, ◌+◌, ◌<◌, ◌≤◌, ℕ, length, map, take, min, sym, subst, ap, ◌∙◌, arith}
use Rattle.std.proofs.lemmas.Grind.{common_steps}
use Rattle.std.proofs.lemmas.Result.{IfOk-from_err}
use Rattle.std.specs.List.{AllByRecursion}
use Rattle.std.proofs.lemmas.List.{take_min}
use Rattle.sctp_model.specs.numbers.Limits.{WINDOW}
use Rattle.sctp_model.specs.numbers.Lists.{Has}
use Rattle.sctp_wire.specs.Items.{blocks_in, IsBlock}
use Rattle.sctp_recv.specs.declared.runs.SeenRun.{SeenRun}
use Rattle.sctp_recv.specs.Blocks.{block_of_run}
use Rattle.sctp_recv.proofs.WireLemmas.{no_blocks}
use Rattle.sctp_recv.proofs.RunBounds.{run_at, ends_within, told_in_range, told_few}
use Rattle.sctp_recv.proofs.seen.Seen.put_runs.Goals as goal

pub loop-i-init : goal.loop-i-init
loop-i-init c = record { told = no_blocks c.args.list.now.items c.requires; fours = rw c.requires (omega arith) }

pub block_above-requires-clause-below : goal.block_above-requires-clause-below
block_above-requires-clause-below c =
    let s = c.self.inside in
    let less : c.loop-i.i < length s.runs.items = omega (arith, c.loop-i-test.true, c.min-told.ensures, c.len.ensures) in
    let run = run_at s.cumulative _ s.runs.items c.loop-i.i c.get.result.now c.self.invariant.runs c.self.invariant.within less c.get.ensures in
    omega (arith, run.0)

pub block_above-requires-clause-order : goal.block_above-requires-clause-order
block_above-requires-clause-order c =
    let s = c.self.inside in
    let less : c.loop-i.i < length s.runs.items = omega (arith, c.loop-i-test.true, c.min-told.ensures, c.len.ensures) in
    (run_at s.cumulative _ s.runs.items c.loop-i.i c.get.result.now c.self.invariant.runs c.self.invariant.within less c.get.ensures).1

pub block_above-requires-clause-near : goal.block_above-requires-clause-near
block_above-requires-clause-near c =
    let s = c.self.inside in
    let less : c.loop-i.i < length s.runs.items = omega (arith, c.loop-i-test.true, c.min-told.ensures, c.len.ensures) in
    (run_at s.cumulative _ s.runs.items c.loop-i.i c.get.result.now c.self.invariant.runs c.self.invariant.within less c.get.ensures).2

pub returns-clause-blocks : goal.returns-clause-blocks
returns-clause-blocks c =
    let s = c.self.inside in
    let end : c.loop-i.i ≡ min 64 (length s.runs.items) = omega (arith, c.min-told.ensures, c.len.ensures, c.loop-i.auto.i-end, c.loop-i-test.false) in
    let told = c.loop-i.invariant.told ∙ ap (λ (n : ℕ). map (block_of_run s.cumulative) (take n s.runs.items)) end ∙ ap (map (block_of_run s.cumulative)) (take_min 64 s.runs.items) in
    rw (← c.self.view_is) told

pub returns-clause-in_range : goal.returns-clause-in_range
returns-clause-in_range c =
    let s = c.self.inside in
    let ends : (r : SeenRun) → Has s.runs.items r → (r.first ≤ r.last) × (r.last ≤ s.cumulative + WINDOW) = λ r there. (c.self.invariant.runs.spaced.some r there, ends_within (s.cumulative + WINDOW) s.runs.items c.self.invariant.runs.spaced c.self.invariant.within r there) in
    subst (AllByRecursion IsBlock) (sym c.loop-i.invariant.told) (told_in_range c.loop-i.i s.cumulative s.runs.items ends)

pub returns-clause-few : goal.returns-clause-few
returns-clause-few c =
    let s = c.self.inside in
    let told = c.loop-i.invariant.told in
    let few = told_few c.loop-i.i s.cumulative s.runs.items in
    let count : length (blocks_in c.loop-i.list.items) ≡ length (map (block_of_run s.cumulative) (take c.loop-i.i s.runs.items)) = ap length told in
    omega (arith, count, few, c.min-told.ensures, c.loop-i.auto.i-end)

pub returns-in_err-put_block-clause-blocks : goal.returns-in_err-put_block-clause-blocks
returns-in_err-put_block-clause-blocks c = IfOk-from_err c.from_residual.result _ c.from_residual.ensures.0

pub returns-in_err-put_block-clause-in_range : goal.returns-in_err-put_block-clause-in_range
returns-in_err-put_block-clause-in_range c = IfOk-from_err c.from_residual.result _ c.from_residual.ensures.0

pub returns-in_err-put_block-clause-few : goal.returns-in_err-put_block-clause-few
returns-in_err-put_block-clause-few c = IfOk-from_err c.from_residual.result _ c.from_residual.ensures.0

pub loop-i-preserved : goal.loop-i-preserved
loop-i-preserved c = grind (arith, common_steps)
