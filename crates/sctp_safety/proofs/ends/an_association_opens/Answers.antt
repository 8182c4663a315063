use Rattle.sctp_safety.proofs.machine.Handshake.{an_association_opens as it}
use Rattle.sctp_safety.proofs.ends.an_association_opens.Goals as goal

pub returns : goal.returns
returns c = it
