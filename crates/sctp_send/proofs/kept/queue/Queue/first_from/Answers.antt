use Rattle.std.proofs.Common.{subst}
use Rattle.sctp_send.specs.PartsKept.{QueueKept}
use Rattle.sctp_send.specs.inner.Seating.{AreLower}
use Rattle.sctp_send.proofs.kept.queue.Queue.first_from.Goals as goal

pub first_from-requires : goal.first_from-requires
first_from-requires c = c.self.invariant.order

pub returns-clause-lower : goal.returns-clause-lower
returns-clause-lower c = subst (λ (k : QueueKept). AreLower c.args.ticket c.first_from.result k.items) c.self.view_is c.first_from.ensures.lower
