use Rattle.std.proofs.Common.{◌≡◌, ap, sym, subst, arith, refl, ◌∙◌, ℕ, ◌+◌, ◌<◌, length, get_or, min}
use Rattle.sctp_send.specs.CoveredRuns.{HasPassed}
use Rattle.sctp_send.specs.inner.Changes.{told_where, in_gaps}
use Rattle.sctp_send.specs.declared.kept.entry.CoveredRun.{CoveredRun}
use Rattle.sctp_send.proofs.sack.GapLemmas.{ends_behind, next_begins, passed_on}
use Rattle.sctp_send.proofs.sack.RecoverLemmas.{alone_start, alone_more, alone_all}
use Rattle.sctp_send.proofs.sack.covered.tell_alone.Goals as goal

pub loop-run-init : goal.loop-run-init
loop-run-init c = record {
  items = λ sorted order. alone_start c.args.covered c.args.others.now c.args.outstanding.now.items;
  passed = λ sorted d some i past. refl;
  count = refl;
  room = record { size = refl; header = refl; capacity = refl };
}

pub loop-run-preserved : goal.loop-run-preserved
loop-run-preserved c =
    let before = c.loop-run.invariant in
    let now = c.loop-run.outstanding.items in
    let none : CoveredRun = record { from = 0; to = 0 } in
    let k = c.loop-run.run-index in
    let runs = c.args.runs.now in
    let r : CoveredRun = get_or runs k none in
    let some : k < length runs = omega arith in
    let from : c.from.result ≡ r.from = c.from.ensures in
    let end : c.min.result ≡ min r.to c.len-last.result = c.min.ensures ∙ ap (λ (n : ℕ). min n c.len-last.result) c.from-in-loop-run.ensures in
    record {
      items = λ sorted order.
          let told : c.tell_gaps-first.new.outstanding.items ≡ told_where c.args.covered (in_gaps c.args.others.now r.from (min r.to c.len-last.result)) 1 now =
          c.tell_gaps-first.ensures.items order (subst (HasPassed c.args.others.now c.loop-run.first) (sym from) (before.passed sorted none some))
          ∙ ap (λ (n : ℕ). told_where c.args.covered (in_gaps c.args.others.now n c.min.result) 1 now) from ∙ ap (λ (n : ℕ). told_where c.args.covered (in_gaps c.args.others.now r.from n) 1 now) end in
          alone_more c.args.covered runs c.args.others.now k c.len-last.result r none c.args.outstanding.now.items now c.tell_gaps-first.new.outstanding.items some refl c.len-last.ensures (before.items sorted order) told;
      passed = λ sorted d more.
          let ends = ends_behind runs 0 k r none sorted some refl in
          let next = next_begins runs 0 k r none d sorted more refl in
          passed_on c.args.others.now c.tell_gaps-first.result _ (get_or runs (k + 1) d).from (omega (arith, ends, next, from, end)) (c.tell_gaps-first.ensures.passed (subst (HasPassed c.args.others.now c.loop-run.first) (sym from) (before.passed sorted none some)));
      count = c.tell_gaps-first.ensures.long ∙ before.count;
      room = record { size = c.tell_gaps-first.ensures.kept.size ∙ before.room.size; header = c.tell_gaps-first.ensures.kept.header ∙ before.room.header; capacity = c.tell_gaps-first.ensures.kept.capacity ∙ before.room.capacity };
    }

pub returns-clause-items : goal.returns-clause-items
returns-clause-items c = λ sorted order. alone_all c.args.covered c.args.runs.now c.args.others.now c.loop-run.run-index c.args.outstanding.now.items c.loop-run.outstanding.items (omega arith) (c.loop-run.invariant.items sorted order)
