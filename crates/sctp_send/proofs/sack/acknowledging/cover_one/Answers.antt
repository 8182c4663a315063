use Rattle.std.proofs.Common.{◌≡◌, set, true, refl, subst, ap}
use Rattle.sctp_send.specs.inner.Changes.{as_covered}
use Rattle.sctp_send.specs.inner.Counting.{left, IsCounted}
use Rattle.sctp_send.specs.inner.Stretching.{IsPlain}
use Rattle.sctp_send.specs.OutstandingFields.{item_meaning}
use Rattle.sctp_send.specs.declared.kept.entry.Entry.{Entry as EntryFields}
use Rattle.sctp_send.specs.declared.kept.entry.Standing.{Standing}
use Rattle.sctp_send.proofs.kept.CountLemmas.{counts_covered}
use Rattle.sctp_send.proofs.kept.ChangedLemmas.{changed_set}
use Rattle.sctp_send.proofs.sack.acknowledging.cover_one.Goals as goal

pub leave_plain-requires : goal.leave_plain-requires
leave_plain-requires c =
    let x = c.index_mut-entry.result.now in
    record { some = c.requires.counted.some; plain = subst (λ b. IsPlain b x) c.if-not-entry.true (c.is_plain.ensures c.if-is_plain.true) }

pub returns-then-not-entry-clause-items : goal.returns-then-not-entry-clause-items
returns-then-not-entry-clause-items c =
    let x = c.index_mut-entry.result.now in
    let out = (c.is_plain.ensures c.if-is_plain.true).out in
    let same : as_covered x ≡ record x { covered = true } = ap (λ (s : Standing). record x { covered = true; standing = s }) (rw out refl) in
    rw (changed_set as_covered c.args.at c.args.entries.now.items x c.requires.within c.index_mut-entry.ensures.value, same) refl

pub returns-then-not-entry-clause-counted : goal.returns-then-not-entry-clause-counted
returns-then-not-entry-clause-counted c =
    let x = c.index_mut-entry.result.now in
    let es = c.args.entries.now.items in
    let out = (c.is_plain.ensures c.if-is_plain.true).out in
    let same : as_covered x ≡ record x { covered = true } = ap (λ (s : Standing). record x { covered = true; standing = s }) (rw out refl) in
    rw c.leave_plain.ensures (subst (λ (y : EntryFields). IsCounted c.args.size (set es c.args.at y) (left (item_meaning c.args.size x) c.args.counts.now)) same
    (counts_covered c.args.size es c.args.at x c.args.counts.now c.requires.within c.index_mut-entry.ensures.value c.requires.counted))

pub returns-clause-counted : goal.returns-clause-counted
returns-clause-counted c =
    let counts = c.args.counts.now in
    rw (c.unmarked-entry.ensures, c.leave.ensures) (counts_covered c.args.size c.args.entries.now.items c.args.at c.index_mut-entry.result.now counts c.requires.within c.index_mut-entry.ensures.value c.requires.counted)

pub returns-clause-items : goal.returns-clause-items
returns-clause-items c =
    let es = c.args.entries.now.items in
    rw (changed_set as_covered c.args.at es c.index_mut-entry.result.now c.requires.within c.index_mut-entry.ensures.value, c.unmarked-entry.ensures) refl

pub returns-then-not-entry-clause-header : goal.returns-then-not-entry-clause-header
returns-then-not-entry-clause-header c = rw c.leave_plain.ensures refl

pub returns-clause-header : goal.returns-clause-header
returns-clause-header c = rw c.leave.ensures refl
