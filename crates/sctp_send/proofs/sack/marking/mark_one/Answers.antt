use Rattle.std.proofs.Common.{◌≡◌, ◌∙◌, Bool, true, false, ap, sym, length}
use Rattle.sctp_send.specs.PartsKept.{OutstandingKept}
use Rattle.sctp_send.specs.inner.Changes.{stood}
use Rattle.sctp_send.specs.inner.Marking.{timed_if}
use Rattle.sctp_send.specs.inner.Testing.{index_of}
use Rattle.sctp_send.specs.declared.kept.entry.Standing.TheVariants.{Marked}
use Rattle.sctp_send.proofs.kept.StoodLemmas.{changed_same, changed_none}
use Rattle.sctp_send.proofs.kept.ChangedLemmas.{count_changed}
use Rattle.sctp_send.proofs.sack.MarkLemmas.{marked_then, not_marked}
use Rattle.sctp_send.proofs.sack.marking.mark_one.Goals as goal

pub returns-then-not-is_to_mark-clause-items : goal.returns-then-not-is_to_mark-clause-items
returns-then-not-is_to_mark-clause-items g c = λ r capped.
    let x = c.get-entry.result.now in
    let says : Bool = g.T.IndexTest.Says c.args.test.now (index_of c.args.cum c.args.at) in
    let same = not_marked says c.args.partial r x (sym (c.is_to_mark.ensures r (capped x c.get-entry.ensures)) ∙ c.if-not-is_to_mark.true) in
    changed_none (timed_if says c.args.partial r) c.args.at c.args.outstanding.now x c.get-entry.ensures same

pub returns-then-passes-clause-items : goal.returns-then-passes-clause-items
returns-then-passes-clause-items g c = λ r capped.
    let x = c.get-entry.result.now in
    let says : Bool = g.T.IndexTest.Says c.args.test.now (index_of c.args.cum c.args.at) in
    let on : says ≡ true = ap (g.T.IndexTest.Says c.args.test.now) (sym c.index_at.ensures) ∙ sym c.passes.ensures ∙ c.if-passes.true in
    let same = marked_then c.args.partial r x (sym (c.is_to_mark.ensures r (capped x c.get-entry.ensures)) ∙ c.if-not-is_to_mark.false) ∙ ap (λ (b : Bool). timed_if b c.args.partial r x) (sym on) in
    c.stand.ensures ∙ changed_same (stood (record { standing = Marked; covered = x.covered; abandoned = x.abandoned; repeats = x.repeats })) (timed_if says c.args.partial r) c.args.at c.args.outstanding.now x c.get-entry.ensures same

pub returns-then-passes-clause-long : goal.returns-then-passes-clause-long
returns-then-passes-clause-long g c = ap (λ (w : OutstandingKept). length w.items) c.stand.ensures ∙ count_changed _ c.args.at c.args.outstanding.now.items

pub returns-else-passes-clause-items : goal.returns-else-passes-clause-items
returns-else-passes-clause-items g c = λ r capped.
    let x = c.get-entry.result.now in
    let says : Bool = g.T.IndexTest.Says c.args.test.now (index_of c.args.cum c.args.at) in
    let off : says ≡ false = ap (g.T.IndexTest.Says c.args.test.now) (sym c.index_at.ensures) ∙ sym c.passes.ensures ∙ c.if-passes.false in
    changed_none (timed_if says c.args.partial r) c.args.at c.args.outstanding.now x c.get-entry.ensures (ap (λ (b : Bool). timed_if b c.args.partial r x) off)
