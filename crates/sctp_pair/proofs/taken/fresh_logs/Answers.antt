use Rattle.std.proofs.Common.{[], refl}
use Rattle.sctp_pair.proofs.taken.fresh_logs.Goals as goal

pub returns : goal.returns
returns c = c.grow.ensures.same (λ s. []) (rw (c.reserve.ensures.items, c.new-logs.ensures.items) (λ s. refl))
