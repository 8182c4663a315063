use Rattle.std.proofs.Common.{◌≡◌, List, [], length, map, take, sym, subst, ap, ◌∙◌, arith}
use Rattle.std.specs.List.{AllByRecursion}
use Rattle.sctp_model.specs.wire.Chunk.{BlockMeaning}
use Rattle.sctp_wire.specs.Items.{IsBlock}
use Rattle.sctp_recv.specs.declared.runs.SeenRun.{SeenRun}
use Rattle.sctp_recv.specs.Blocks.{block_of_run}
use Rattle.sctp_recv.proofs.WireLemmas.{no_blocks}
use Rattle.sctp_recv.proofs.RunLemmas.{nothing_there}
use Rattle.sctp_recv.proofs.seen.Seen.put_blocks.Goals as goal

pub returns-then-is_empty-clause-blocks : goal.returns-then-is_empty-clause-blocks
returns-then-is_empty-clause-blocks c =
    let s = c.self.inside in
    let none : s.runs.items ≡ [] = nothing_there s.runs.items (sym c.is_empty.ensures ∙ c.if-is_empty.true) in
    let told = ap (λ (rs : List SeenRun). map (block_of_run s.cumulative) (take 64 rs)) (sym none) in
    rw (← c.self.view_is) (no_blocks c.args.list.now.items c.requires ∙ told)

pub returns-then-is_empty-clause-in_range : goal.returns-then-is_empty-clause-in_range
returns-then-is_empty-clause-in_range c = subst (λ (bs : List BlockMeaning). AllByRecursion IsBlock bs) (sym (no_blocks c.args.list.now.items c.requires)) tt

pub returns-then-is_empty-clause-few : goal.returns-then-is_empty-clause-few
returns-then-is_empty-clause-few c = let none = ap (λ (bs : List BlockMeaning). length bs) (no_blocks c.args.list.now.items c.requires) in omega (arith, none)
