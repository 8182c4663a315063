use Rattle.sctp_safety.proofs.sending.NewlyAbandoned.{abandons_its_own_alone as law}
use Rattle.sctp_safety.proofs.sender.abandons_its_own_alone.Goals as goal

pub returns : goal.returns
returns c = law
