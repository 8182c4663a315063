use Rattle.std.proofs.Common.{◌≡◌, ◌≤◌, ◌<◌, ℕ, min, max, ap, length, get_or, refl, ◌∙◌, arith}
use Rattle.sctp_send.specs.PartsKept.{OutstandingKept}
use Rattle.sctp_send.specs.inner.Changes.{told_at, told_where, is_between}
use Rattle.sctp_send.specs.declared.kept.entry.CoveredRun.{CoveredRun}
use Rattle.sctp_send.proofs.sack.EachLemmas.{length-each}
use Rattle.sctp_send.proofs.sack.GapLemmas.{passed_on, passed_more, passed_all, gaps_start, gaps_more, gaps_rest, gaps_end}
use Rattle.sctp_send.proofs.sack.covered.tell_gaps.Goals as goal

pub loop-next-init : goal.loop-next-init
loop-next-init c = record {
  low = omega arith;
  near = omega arith;
  passed = λ passed. passed;
  items = λ order passed. gaps_start c.args.covered c.args.runs.now c.args.from c.args.to c.args.outstanding.now.items;
  count = refl;
  room = record { size = refl; header = refl; capacity = refl };
}

pub loop-next-preserved : goal.loop-next-preserved
loop-next-preserved c =
    let before = c.loop-next.invariant in
    let none : CoveredRun = record { from = 0; to = 0 } in
    let run : CoveredRun = get_or c.args.runs.now c.loop-next.next none in
    let end : c.from-end.result ≡ run.to = c.from-end.ensures in
    let from : c.from.result ≡ run.from = c.from.ensures in
    let ends : run.to ≤ c.args.to = omega (arith, end, c.if-to-end.false) in
    let now = c.loop-next.outstanding.items in
    record {
      low = omega (arith, before.low, c.max-at.ensures);
      near = omega (arith, before.near, c.max-at.ensures, ends, end);
      passed = λ passed. passed_more c.args.runs.now c.loop-next.next run none c.loop-next.at c.max-at.result (omega arith) refl (omega (arith, c.max-at.ensures)) (omega (arith, c.max-at.ensures, end)) (before.passed passed);
      items = λ order passed.
          gaps_more c.args.covered c.args.runs.now c.loop-next.next run none c.args.from c.loop-next.at c.args.to c.min-gap.result c.max-at.result c.args.outstanding.now.items now c.tell_run.new.self.items order (omega arith) refl before.low
          (c.min-gap.ensures ∙ ap (λ (n : ℕ). min n c.args.to) from) (c.max-at.ensures ∙ ap (max c.loop-next.at) end) (before.passed passed) (before.items order passed) ((ap (λ (w : OutstandingKept). w.items) c.tell_run.ensures) ∙ ap (λ (n : ℕ). told_where c.args.covered (is_between n c.min-gap.result) 1 now) c.min.ensures);
      count = ap length (ap (λ (w : OutstandingKept). w.items) c.tell_run.ensures) ∙ length-each (told_at c.args.covered (is_between c.min.result c.min-gap.result)) 1 now ∙ before.count;
      room = record { size = ap (λ (w : OutstandingKept). w.size) c.tell_run.ensures ∙ before.room.size; header = ap (λ (w : OutstandingKept). w.header) c.tell_run.ensures ∙ before.room.header; capacity = ap (λ (w : OutstandingKept). w.capacity) c.tell_run.ensures ∙ before.room.capacity };
    }

pub returns-then-to-end-clause-items : goal.returns-then-to-end-clause-items
returns-then-to-end-clause-items c = λ order passed.
    let before = c.loop-next.invariant in
    let none : CoveredRun = record { from = 0; to = 0 } in
    let run : CoveredRun = get_or c.args.runs.now c.loop-next.next none in
    let end : c.from-end.result ≡ run.to = c.from-end.ensures in
    let from : c.from.result ≡ run.from = c.from.ensures in
    let past : c.args.to < run.to = omega (arith, end, c.if-to-end.true) in
    let now = c.loop-next.outstanding.items in
    let last = c.tell_run.new.self.items in
    gaps_end c.args.covered c.args.runs.now c.args.from c.max-at.result c.args.to c.args.outstanding.now.items last (omega (arith, past, c.max-at.ensures, end))
    (gaps_more c.args.covered c.args.runs.now c.loop-next.next run none c.args.from c.loop-next.at c.args.to c.min-gap.result c.max-at.result c.args.outstanding.now.items now last order (omega arith) refl before.low
    (c.min-gap.ensures ∙ ap (λ (n : ℕ). min n c.args.to) from) (c.max-at.ensures ∙ ap (max c.loop-next.at) end) (before.passed passed) (before.items order passed) ((ap (λ (w : OutstandingKept). w.items) c.tell_run.ensures) ∙ ap (λ (n : ℕ). told_where c.args.covered (is_between n c.min-gap.result) 1 now) c.min.ensures))

pub returns-then-to-end-clause-passed : goal.returns-then-to-end-clause-passed
returns-then-to-end-clause-passed c = λ passed. passed_on c.args.runs.now c.loop-next.next c.loop-next.at _ c.loop-next.invariant.near (c.loop-next.invariant.passed passed)

pub returns-then-to-end-clause-long : goal.returns-then-to-end-clause-long
returns-then-to-end-clause-long c = ap length (ap (λ (w : OutstandingKept). w.items) c.tell_run.ensures) ∙ length-each (told_at c.args.covered (is_between c.min.result c.min-gap.result)) 1 c.loop-next.outstanding.items ∙ c.loop-next.invariant.count

pub returns-clause-items : goal.returns-clause-items
returns-clause-items c = λ order passed.
    let before = c.loop-next.invariant in
    gaps_rest c.args.covered c.args.runs.now c.loop-next.next c.args.from c.loop-next.at c.args.to c.min-2.result c.args.outstanding.now.items c.loop-next.outstanding.items c.tell_run-2.new.self.items (omega arith) before.low c.min-2.ensures
    (before.passed passed) (before.items order passed) (ap (λ (w : OutstandingKept). w.items) c.tell_run-2.ensures)

pub returns-clause-passed : goal.returns-clause-passed
returns-clause-passed c = λ passed. passed_all c.args.runs.now c.loop-next.next c.loop-next.at _ (omega arith) c.loop-next.invariant.near (c.loop-next.invariant.passed passed)

pub returns-clause-long : goal.returns-clause-long
returns-clause-long c = ap length (ap (λ (w : OutstandingKept). w.items) c.tell_run-2.ensures) ∙ length-each (told_at c.args.covered (is_between c.min-2.result c.args.to)) 1 c.loop-next.outstanding.items ∙ c.loop-next.invariant.count
