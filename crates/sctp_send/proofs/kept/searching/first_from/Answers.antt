use Rattle.std.proofs.Common.{◌<◌, ◌≤◌, length, map, sym, ◌∙◌, arith}
use Rattle.sctp_send.specs.OutstandingFields.{item_meaning}
use Rattle.sctp_send.specs.inner.Wishing.{is_item_wanted}
use Rattle.sctp_send.proofs.kept.CursorLemmas.{none_less, none_more, first_found}
use Rattle.sctp_send.proofs.kept.searching.first_from.Goals as goal

pub loop-at-preserved : goal.loop-at-preserved
loop-at-preserved c = λ size before.
    let es = c.args.entries.now.items in
    let lt : c.loop-at.at < length es = omega (arith, c.len-at-end.ensures, c.args.entries.now.ok.0, c.loop-at-test.true) in
    none_more (is_item_wanted c.args.again) size es c.loop-at.at c.index.result.now lt c.index.ensures (sym (c.is_wanted.ensures size) ∙ c.if-is_wanted.false) (c.loop-at.invariant size before)

pub returns-then-is_wanted-clause-found : goal.returns-then-is_wanted-clause-found
returns-then-is_wanted-clause-found c = λ size before lt.
    first_found (is_item_wanted c.args.again) size c.args.entries.now.items c.loop-at.at c.index.result.now lt c.index.ensures (sym (c.is_wanted.ensures size) ∙ c.if-is_wanted.true) (c.loop-at.invariant size before)

pub returns-clause-none : goal.returns-clause-none
returns-clause-none c = λ size before.
    let less : c.len.result ≤ c.loop-at.at = omega (arith, c.len.ensures, c.len-at-end.ensures, c.loop-at-test.false) in
    none_less (is_item_wanted c.args.again) (map (item_meaning size) c.args.entries.now.items) c.len.result c.loop-at.at less (c.loop-at.invariant size before)
