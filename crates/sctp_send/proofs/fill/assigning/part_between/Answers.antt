use Rattle.std.proofs.Common.{◌∙◌, List, ap, arith}
use Rattle.sctp_model.specs.sender.Assigning.{first_on}
use Rattle.sctp_model.specs.sender.SenderView.{Queued}
use Rattle.sctp_send.specs.inner.Stocking.{stocked}
use Rattle.sctp_send.proofs.fill.NextLemmas.{part_first, none_first}
use Rattle.sctp_send.proofs.fill.assigning.part_between.Goals as goal

pub returns-then-part-below-clause-does : goal.returns-then-part-below-clause-does
returns-then-part-below-clause-does c = λ s v streams keeps waits.
    let next = c.next_part-part.ensures s.fragment in
    part_first (stocked s c.args.stock.now) v c.args.from c.args.below c.next_part-part.result c.args.below keeps (omega (arith, c.requires, streams, keeps.holds.streams)) (omega (arith, c.requires, streams, keeps.holds.streams)) (omega (arith, c.if-part-below.true))
    (omega (arith, c.if-part-below.true)) next (λ j lo hi. ap (λ (qs : List Queued). first_on j qs) keeps.holds.queue ∙ waits j lo (omega (arith, hi, c.if-part-below.true)))

pub returns-clause-does : goal.returns-clause-does
returns-clause-does c = λ s v streams keeps waits.
    none_first (stocked s c.args.stock.now) v c.args.from c.args.below c.next_part-part.result keeps (omega (arith, c.requires, streams, keeps.holds.streams)) (c.next_part-part.ensures s.fragment) (omega (arith, c.if-part-below.false))
    (λ j lo hi. ap (λ (qs : List Queued). first_on j qs) keeps.holds.queue ∙ waits j lo hi)
