use Rattle.std.proofs.Common.{◌≡◌, ◌∙◌, true, false, sym, refl, arith}
use Rattle.sctp_send.specs.OutstandingFields.{item_meaning}
use Rattle.sctp_send.specs.inner.Weighing.{is_item_news}
use Rattle.sctp_send.proofs.pace.tally.Tally.with.Goals as goal

pub returns-then-is_news-clause-newest : goal.returns-then-is_news-clause-newest
returns-then-is_news-clause-newest c =
    let on : is_item_news (item_meaning c.args.size c.args.entry.now) ≡ true = sym (c.is_news.ensures c.args.size) ∙ c.if-is_news.true in
    rw on (omega arith)

pub returns-else-is_news-clause-newest : goal.returns-else-is_news-clause-newest
returns-else-is_news-clause-newest c =
    let off : is_item_news (item_meaning c.args.size c.args.entry.now) ≡ false = sym (c.is_news.ensures c.args.size) ∙ c.if-is_news.false in
    rw off refl
