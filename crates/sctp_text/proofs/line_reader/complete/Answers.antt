use Rattle.std.proofs.Common.{◌≡◌, ℕ, ◌<◌, inl, inr, List, [], ◌++◌, length, arith}
use Rattle.std.proofs.lemmas.Grind.{common_steps}
use Rattle.sctp_text.proofs.SourceLineLemmas.{read_on, gathers_on, begun_before}
use Rattle.sctp_text.proofs.line_reader.complete.Goals as goal

pub returns-in_err-map_err-clause-bytes : goal.returns-in_err-map_err-clause-bytes
returns-in_err-map_err-clause-bytes g c =
    let b = c.reading.invariant.bytes in
    let held : List ℕ = c.args.line.now.items ++ c.args.block.now in
    let used : c.gather.new.block ≡ [] = grind (arith, common_steps) in
    let on = read_on c.args.given held b.0 c.reading.line.items c.reading.block c.gather.new.line.items c.fill.new.self
    b.3 (rw used at c.gather.ensures.bytes) c.fill.ensures.bound c.gather.ensures.begun in
    (b.0 ++ c.fill.new.self, g.met.S.Source.reads_more _ _ _ _ _ b.1 c.fill.ensures.bytes, on.0, on.1)

pub returns-then-is_empty-clause-bytes : goal.returns-then-is_empty-clause-bytes
returns-then-is_empty-clause-bytes g c =
    let b = c.reading.invariant.bytes in
    let held : List ℕ = c.args.line.now.items ++ c.args.block.now in
    let used : c.gather.new.block ≡ [] = grind (arith, common_steps) in
    let on = read_on c.args.given held b.0 c.reading.line.items c.reading.block c.gather.new.line.items c.fill.new.self
    b.3 (rw used at c.gather.ensures.bytes) c.fill.ensures.bound c.gather.ensures.begun in
    (b.0 ++ c.fill.new.self, g.met.S.Source.reads_more _ _ _ _ _ b.1 c.fill.ensures.bytes, on.0, on.1)

pub reading-smaller : goal.reading-smaller
reading-smaller g c =
    let used : c.gather.new.block ≡ [] = grind (arith, common_steps) in
    let some : 0 < length c.fill.new.self = grind (arith, common_steps) in
    gathers_on c.reading.line.items c.reading.block c.gather.new.line.items c.fill.new.self
    (rw used at c.gather.ensures.bytes) c.gather.ensures.begun.small c.fill.ensures.bound some

pub reading-preserved : goal.reading-preserved
reading-preserved g c =
    let i = c.reading.invariant in
    let b = i.bytes in
    let held : List ℕ = c.args.line.now.items ++ c.args.block.now in
    let used : c.gather.new.block ≡ [] = grind (arith, common_steps) in
    let moved = rw used at c.gather.ensures.bytes in
    let on = read_on c.args.given held b.0 c.reading.line.items c.reading.block c.gather.new.line.items c.fill.new.self
    b.3 moved c.fill.ensures.bound c.gather.ensures.begun in
    record {
      begun = c.gather.ensures.begun;
      bytes = (b.0 ++ c.fill.new.self, g.met.S.Source.reads_more _ _ _ _ _ b.1 c.fill.ensures.bytes, on.0, on.1);
      failed = grind (arith, common_steps, c.fill.ensures.failed, i.failed);
      unread = inr (elim i.unread [
        | inl w ↦ begun_before c.args.given held c.reading.line.items c.reading.block c.gather.new.line.items moved w.1 c.gather.ensures.begun
        | inr begun ↦ begun
      ]);
    }
