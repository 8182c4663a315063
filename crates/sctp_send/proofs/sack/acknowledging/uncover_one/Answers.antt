use Rattle.std.proofs.Common.{◌≡◌, set, Bool, refl, sym, subst, ap}
use Rattle.sctp_send.specs.inner.Changes.{as_uncovered}
use Rattle.sctp_send.specs.PartsKept.{changed_at}
use Rattle.sctp_send.specs.declared.kept.entry.Entry.{Entry as EntryFields}
use Rattle.sctp_send.specs.OutstandingFields.{item_meaning}
use Rattle.sctp_send.specs.inner.Counting.{entered, IsCounted}
use Rattle.sctp_send.specs.declared.kept.counts.Counts.{Counts}
use Rattle.sctp_send.proofs.kept.TurnedLemmas.{plain_lowered}
use Rattle.sctp_send.proofs.kept.CountLemmas.{counts_uncovered}
use Rattle.sctp_send.proofs.kept.ChangedLemmas.{changed_set}
use Rattle.sctp_send.proofs.sack.acknowledging.uncover_one.Goals as goal

pub returns-clause-items : goal.returns-clause-items
returns-clause-items c =
    let es = c.args.entries.now.items in
    rw (changed_set as_uncovered c.args.at es c.index_mut-entry.result.now c.requires.within c.index_mut-entry.ensures.value) refl

pub returns-clause-counted : goal.returns-clause-counted
returns-clause-counted c =
    rw (c.lower.ensures c.args.size, c.enter.ensures) (counts_uncovered c.args.size c.args.entries.now.items c.args.at c.index_mut-entry.result.now c.args.counts.now c.requires.within c.index_mut-entry.ensures.value (cc) c.requires.counted)

pub returns-then-is_plain-clause-items : goal.returns-then-is_plain-clause-items
returns-then-is_plain-clause-items c =
    let es = c.args.entries.now.items in
    rw (changed_set as_uncovered c.args.at es c.index_mut-entry.result.now c.requires.within c.index_mut-entry.ensures.value) refl

pub returns-then-is_plain-clause-counted : goal.returns-then-is_plain-clause-counted
returns-then-is_plain-clause-counted c =
    let es = c.args.entries.now.items in
    let x = c.index_mut-entry.result.now in
    let y = as_uncovered x in
    let counts = c.args.counts.now in
    rw c.enter_plain.ensures (subst (λ (k : Counts). IsCounted c.args.size (set es c.args.at y) k) (plain_lowered c.args.size c.args.at y (entered (item_meaning c.args.size y) counts) (c.is_plain.ensures c.if-is_plain.true))
    (counts_uncovered c.args.size es c.args.at x counts c.requires.within c.index_mut-entry.ensures.value (cc) c.requires.counted))

pub returns-then-not-entry-clause-items : goal.returns-then-not-entry-clause-items
returns-then-not-entry-clause-items c =
    let es = c.args.entries.now.items in
    let x = c.index_mut-entry.result.now in
    let same : as_uncovered x ≡ x = ap (λ (b : Bool). record x { covered = b }) (sym c.if-not-entry.true) in
    subst (λ (y : EntryFields). set es c.args.at y ≡ changed_at as_uncovered c.args.at es) same (sym (changed_set as_uncovered c.args.at es x c.requires.within c.index_mut-entry.ensures.value))

pub returns-clause-header : goal.returns-clause-header
returns-clause-header c = rw (c.lower.ensures c.args.size, c.enter.ensures) refl

pub returns-then-is_plain-clause-header : goal.returns-then-is_plain-clause-header
returns-then-is_plain-clause-header c = rw c.enter_plain.ensures refl
