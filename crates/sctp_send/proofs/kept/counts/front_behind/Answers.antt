use Rattle.std.proofs.Common.{◌≡◌, ◌+◌, map, drop, ◌∙◌, arith}
use Rattle.sctp_send.specs.OutstandingFields.{item_meaning}
use Rattle.sctp_send.specs.inner.Walks.{abandoned_items}
use Rattle.sctp_send.proofs.kept.FrontLemmas.{first_some}
use Rattle.sctp_send.proofs.kept.counts.front_behind.Goals as goal

pub returns-then-front-gt0 : goal.returns-then-front-gt0
returns-then-front-gt0 c = λ size x is. first_some x (map (item_meaning size) c.args.entries.now.items) c.args.front is c.if-front-gt0.true

pub returns : goal.returns
returns c = λ size x is.
    let none : 0 + abandoned_items (drop 0 (map (item_meaning size) c.args.entries.now.items)) ≡ abandoned_items (map (item_meaning size) c.args.entries.now.items) = omega arith in
    c.abandoned_from.ensures size ∙ none
