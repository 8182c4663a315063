use Rattle.std.proofs.Common.{[], refl}
use Rattle.sctp_pair.proofs.taken.wipe.Goals as goal

pub returns : goal.returns
returns c = c.grow-made.ensures.same (λ s. []) (rw c.clear.ensures.items (λ s. refl))
