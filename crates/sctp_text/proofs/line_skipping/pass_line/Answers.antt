use Rattle.std.proofs.Common.{◌≡◌, ℕ, List, [], ◌++◌, refl, append-nil, length-append, arith}
use Rattle.std.proofs.lemmas.Grind.{common_steps}
use Rattle.std.proofs.lemmas.List.Elements.{All-nil}
use Rattle.sctp_text.proofs.SourceLineLemmas.{one_line-append}
use Rattle.sctp_text.proofs.SkipLemmas.{skip_further, ends, fails}
use Rattle.sctp_text.proofs.line_skipping.pass_line.Goals as goal

pub skipping-init : goal.skipping-init
skipping-init g c = record {
  within = c.requires.within;
  bytes = ([], [], g.met.S.Source.reads_none _, All-nil _, append-nil c.args.block.now, omega arith);
  failed = refl;
}

pub returns-in-Some-clause-skips : goal.returns-in-Some-clause-skips
returns-in-Some-clause-skips g c =
    let b = c.skipping.invariant.bytes in
    let passed = rw c.in-Some.is at c.pass_block.ensures.passed in
    (b.0, b.2, ends c.args.block.now c.args.given.now b.0 b.1 c.skipping.block c.skipping.given c.in-Some.skipped c.pass_block.new.given c.pass_block.new.block b.3 b.4 b.5 c.pass_block.ensures.within passed)

pub returns-in_err-fill-clause-skips : goal.returns-in_err-fill-clause-skips
returns-in_err-fill-clause-skips g c =
    let b = c.skipping.invariant.bytes in
    let passed = rw c.in_default.is at c.pass_block.ensures.passed in
    let line : List ℕ = b.1 ++ c.skipping.block in (
      b.0 ++ c.fill.new.self,
      g.met.S.Source.reads_more _ _ _ _ _ b.2 c.fill.ensures.bytes,
      fails c.args.block.now c.args.given.now (b.0 ++ c.fill.new.self) line c.fill.new.self c.from_residual.result c.pass_block.new.given c.from_residual.ensures.0
          (one_line-append b.1 c.skipping.block b.3 passed.0)
          (skip_further c.args.block.now b.0 b.1 c.skipping.block c.fill.new.self b.4)
          (omega (arith, passed.2, b.5, length-append b.1 c.skipping.block))
          c.pass_block.ensures.within,
    )

pub returns-then-is_empty-clause-skips : goal.returns-then-is_empty-clause-skips
returns-then-is_empty-clause-skips g c =
    let b = c.skipping.invariant.bytes in
    let passed = rw c.in_default.is at c.pass_block.ensures.passed in
    let line : List ℕ = b.1 ++ c.skipping.block in
    let none : c.fill.new.self ≡ [] = grind (arith, common_steps, c.is_empty.ensures, c.if-is_empty.true) in (
      b.0 ++ c.fill.new.self,
      g.met.S.Source.reads_more _ _ _ _ _ b.2 c.fill.ensures.bytes,
      record {
        line = line;
        one_line = one_line-append b.1 c.skipping.block b.3 passed.0;
        whole = skip_further c.args.block.now b.0 b.1 c.skipping.block c.fill.new.self b.4;
        count = omega (arith, passed.2, b.5, length-append b.1 c.skipping.block);
        within = c.pass_block.ensures.within;
        left = none;
      },
    )

pub skipping-preserved : goal.skipping-preserved
skipping-preserved g c =
    let i = c.skipping.invariant in
    let b = i.bytes in
    let passed = rw c.in_default.is at c.pass_block.ensures.passed in record {
      within = c.pass_block.ensures.within;
      bytes = (
        b.0 ++ c.fill.new.self,
        b.1 ++ c.skipping.block,
        g.met.S.Source.reads_more _ _ _ _ _ b.2 c.fill.ensures.bytes,
        one_line-append b.1 c.skipping.block b.3 passed.0,
        skip_further c.args.block.now b.0 b.1 c.skipping.block c.fill.new.self b.4,
        omega (arith, passed.2, b.5, length-append b.1 c.skipping.block),
      );
      failed = grind (arith, common_steps, c.fill.ensures.failed, i.failed);
    }
