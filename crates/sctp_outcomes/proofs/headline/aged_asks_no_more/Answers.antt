use Rattle.sctp_outcomes.proofs.AgedDates.{aged_asks_no_more, aged_asks_no_less, plans_only_grow}
use Rattle.sctp_outcomes.proofs.headline.aged_asks_no_more.Goals as goal

pub returns-clause-more : goal.returns-clause-more
returns-clause-more c = aged_asks_no_more

pub returns-clause-less : goal.returns-clause-less
returns-clause-less c = aged_asks_no_less

pub returns-clause-grows : goal.returns-clause-grows
returns-clause-grows c = plans_only_grow
