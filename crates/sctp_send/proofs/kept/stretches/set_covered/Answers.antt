use Rattle.std.proofs.Common.{◌≡◌, ◌+◌, ◌-◌, ◌<◌, ℕ, suc, length, List, sym, ap, ◌∙◌, arith}
use Rattle.std.specs.Prelude.{slice_index_or}
use Rattle.sctp_send.specs.PartsKept.{changed_at}
use Rattle.sctp_send.specs.inner.Stretching.{noted, covered_run}
use Rattle.sctp_send.specs.declared.kept.entry.Entry.{Entry as EntryFields}
use Rattle.sctp_send.proofs.kept.ChangedLemmas.{changed_set}
use Rattle.sctp_send.proofs.kept.StretchLemmas.{run_none, run_more, length-run_changed}
use Rattle.sctp_send.proofs.kept.stretches.set_covered.Goals as goal

pub loop-offset-init : goal.loop-offset-init
loop-offset-init c =
    let es = c.args.entries.now in
    let none : c.args.at - c.args.at ≡ 0 = omega arith in
    record { low = omega arith; noted = sym (ap (λ (k : ℕ). covered_run c.args.covered c.args.at k es) none ∙ run_none (noted c.args.covered) c.args.at es) }

pub loop-offset-preserved : goal.loop-offset-preserved
loop-offset-preserved c =
    let h = c.loop-offset.invariant in
    let es = c.args.entries.now in
    let now = c.loop-offset.entries in
    let at = c.args.at in
    let p = c.loop-offset.offset in
    let k = p - at in
    let b = c.args.covered in
    let x = slice_index_or now p c.index-entries-offset.result in
    let long : length now ≡ length es = ap (λ (xs : List EntryFields). length xs) h.noted ∙ length-run_changed (noted b) at k es in
    let lt : p < length now = omega (arith, long, c.requires, c.loop-offset-test.true) in
    let read : x ≡ slice_index_or now p x = ap (λ (d : EntryFields). slice_index_or now p d) c.index-entries-offset.is in
    let here : p ≡ at + k = omega (arith, h.low) in
    let next : suc k ≡ p + 1 - at = omega (arith, h.low) in
    record {
      low = omega (arith, h.low);
      noted =
          sym (changed_set (noted b) p now x lt read) ∙ ap (changed_at (noted b) p) h.noted ∙ ap (λ (n : ℕ). changed_at (noted b) n (covered_run b at k es)) here
          ∙ sym (run_more (noted b) at k es) ∙ ap (λ (j : ℕ). covered_run b at j es) next;
    }
