use Rattle.std.proofs.Common.{refl}
use Rattle.sctp_send.specs.inner.Stocking.{stocked}
use Rattle.sctp_send.proofs.fill.NextLemmas.{turn_kept, turn_kept_on}
use Rattle.sctp_send.proofs.fill.assigning.next_in_turn.Goals as goal

pub returns-in-Some-clause-next : goal.returns-in-Some-clause-next
returns-in-Some-clause-next c = λ s v streams keeps.
    turn_kept (stocked s c.args.stock.now) v c.args.streams c.args.stock.now.turn c.in-Some.next keeps streams refl (c.in-Some.ensures.does s v streams keeps)

pub returns-clause-next : goal.returns-clause-next
returns-clause-next c = λ s v streams keeps.
    turn_kept_on (stocked s c.args.stock.now) v c.args.streams c.args.stock.now.turn c.min.result c.next_around.result keeps streams refl c.min.ensures (c.in_default.ensures.does s v streams keeps) (c.next_around.ensures.does s v streams keeps)
