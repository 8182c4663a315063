use Rattle.sctp_send.proofs.kept.OwedLemmas.{owed_is}
use Rattle.sctp_send.proofs.kept.queue.Queue.owed.Goals as goal

pub returns : goal.returns
returns c = rw (← c.self.view_is, owed_is) c.self.invariant.owed
