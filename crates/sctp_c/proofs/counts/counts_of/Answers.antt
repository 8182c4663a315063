use Rattle.std.proofs.Common.{refl}
use Rattle.sctp_c.proofs.counts.counts_of.Goals as goal

pub returns : goal.returns
returns c = λ v stands. record { told = c.counts-counts.ensures.counts; abandoned = c.counts-counts.ensures.abandoned v stands; reserved = refl }
