use Rattle.std.proofs.Common.{set, refl, sym, ◌∙◌, ap, subst}
use Rattle.sctp_send.specs.inner.Stocking.{went_out}
use Rattle.sctp_send.specs.declared.kept.entry.Entry.{Entry as EntryFields}
use Rattle.sctp_send.proofs.kept.ChangedLemmas.{changed_set}
use Rattle.sctp_send.proofs.kept.SentLemmas.{IsFirst, read_twice, is_first, first_out, first_plain, counts_sent}
use Rattle.sctp_send.proofs.kept.going_out.send_one.Goals as goal

pub enter_plain-requires : goal.enter_plain-requires
enter_plain-requires c =
    let e = c.index_mut-entry.result.now in
    let same = read_twice c.args.entries.now.items c.args.at c.index.result.now e c.requires.within c.index.ensures c.index_mut-entry.ensures.value in
    let first = subst IsFirst same (is_first c.args.size c.index.result.now (sym (c.is_first_sending.ensures c.args.size) ∙ c.if-not-is_first_sending.false)) in
    record { some = c.requires.counted.some; plain = first_plain e first }

pub returns-clause-items : goal.returns-clause-items
returns-clause-items c =
    let es = c.args.entries.now.items in
    let e = c.index_mut-entry.result.now in
    let same = read_twice es c.args.at c.index.result.now e c.requires.within c.index.ensures c.index_mut-entry.ensures.value in
    let first = subst IsFirst same (is_first c.args.size c.index.result.now (sym (c.is_first_sending.ensures c.args.size) ∙ c.if-not-is_first_sending.false)) in
    ap (λ (y : EntryFields). set es c.args.at y) (sym (first_out e first)) ∙ sym (changed_set went_out c.args.at es e c.requires.within c.index_mut-entry.ensures.value)

pub returns-clause-counted : goal.returns-clause-counted
returns-clause-counted c =
    let es = c.args.entries.now.items in
    let e = c.index_mut-entry.result.now in
    let same = read_twice es c.args.at c.index.result.now e c.requires.within c.index.ensures c.index_mut-entry.ensures.value in
    let first = subst IsFirst same (is_first c.args.size c.index.result.now (sym (c.is_first_sending.ensures c.args.size) ∙ c.if-not-is_first_sending.false)) in
    rw (c.furthest-counts.ensures, c.enter_plain.ensures) (counts_sent c.args.size es c.args.at e c.args.counts.now c.requires.within c.index_mut-entry.ensures.value first c.requires.counted)

pub returns-clause-header : goal.returns-clause-header
returns-clause-header c = rw c.enter_plain.ensures refl
