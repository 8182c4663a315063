use Rattle.std.proofs.Common.{◌≡◌, List, length, sym, ap, ◌∙◌, arith}
use Rattle.std.specs.Prelude.{not}
use Rattle.sctp_send.specs.inner.Changes.{told}
use Rattle.sctp_send.specs.inner.Stretching.{covered_run, told_run}
use Rattle.sctp_send.specs.declared.kept.entry.Entry.{Entry as EntryFields}
use Rattle.sctp_send.proofs.kept.StretchLemmas.{alike_long, run_noted, length-run_changed}
use Rattle.sctp_send.proofs.kept.TurnedLemmas.{counts_turned, header_turned}
use Rattle.sctp_send.proofs.kept.stretches.turn_stretch.Goals as goal

pub set_covered-requires : goal.set_covered-requires
set_covered-requires c =
    let es = c.args.entries.now.items in
    let le = alike_long c.args.counts.now.header c.args.size (not c.args.covered) c.args.stretch.bytes c.args.stretch.chunks c.args.stretch.plain c.args.at 64 es c.requires.alike in
    let long : length c.make_contiguous.result.now ≡ length es = ap (λ (xs : List EntryFields). length xs) c.make_contiguous.ensures.value in
    omega (arith, le, long)

pub returns-clause-items : goal.returns-clause-items
returns-clause-items c =
    let es = c.args.entries.now.items in
    let is : c.set_covered.new.entries ≡ told_run c.args.covered c.args.at 64 es = c.set_covered.ensures ∙ ap (covered_run c.args.covered c.args.at 64) c.make_contiguous.ensures.value
    ∙ run_noted c.args.counts.now.header c.args.size (not c.args.covered) c.args.covered c.args.stretch.bytes c.args.stretch.chunks c.args.stretch.plain c.args.at 64 es c.requires.alike in
    let long : length c.set_covered.new.entries ≡ length es = ap (λ (xs : List EntryFields). length xs) is ∙ length-run_changed (told c.args.covered) c.args.at 64 es in
    c.make_contiguous.ensures.writes_back c.set_covered.new.entries (long ∙ sym c.args.entries.now.ok.0) ∙ is

pub returns-clause-counted : goal.returns-clause-counted
returns-clause-counted c =
    let es = c.args.entries.now.items in
    let is : c.set_covered.new.entries ≡ told_run c.args.covered c.args.at 64 es = c.set_covered.ensures ∙ ap (covered_run c.args.covered c.args.at 64) c.make_contiguous.ensures.value
    ∙ run_noted c.args.counts.now.header c.args.size (not c.args.covered) c.args.covered c.args.stretch.bytes c.args.stretch.chunks c.args.stretch.plain c.args.at 64 es c.requires.alike in
    let long : length c.set_covered.new.entries ≡ length es = ap (λ (xs : List EntryFields). length xs) is ∙ length-run_changed (told c.args.covered) c.args.at 64 es in
    let items = c.make_contiguous.ensures.writes_back c.set_covered.new.entries (long ∙ sym c.args.entries.now.ok.0) ∙ is in
    rw (items, c.turn.ensures) (counts_turned c.args.size c.args.covered c.args.stretch.bytes c.args.stretch.chunks c.args.stretch.plain c.args.at es c.args.counts.now c.requires.alike c.requires.counted)

pub returns-clause-header : goal.returns-clause-header
returns-clause-header c = rw c.turn.ensures (header_turned c.args.stretch.bytes c.args.stretch.chunks c.args.stretch.plain c.args.covered c.args.counts.now)
