use Rattle.std.proofs.Common.{map, ◌∙◌}
use Rattle.sctp_send.specs.OutstandingFields.{item_meaning}
use Rattle.sctp_send.proofs.kept.FrontLemmas.{after_off, after_far, after_there}
use Rattle.sctp_send.proofs.kept.counts.front_after.Goals as goal

pub returns-then-not-abandoned : goal.returns-then-not-abandoned
returns-then-not-abandoned c = λ size before x is lt same told.
    c.min.ensures ∙ after_off (map (item_meaning size) c.args.entries.now.items) c.args.at before x lt same c.args.front is (told ∙ c.if-not-abandoned.true)

pub returns-then-at-front : goal.returns-then-at-front
returns-then-at-front c = λ size before x is lt same told.
    after_far (map (item_meaning size) c.args.entries.now.items) c.args.at before x lt same c.args.front is (told ∙ c.if-not-abandoned.false) c.if-at-front.true

pub returns : goal.returns
returns c = λ size before x is lt same told.
    c.abandoned_from.ensures size ∙ after_there (map (item_meaning size) c.args.entries.now.items) c.args.at before x lt same c.args.front is c.if-at-front.false
