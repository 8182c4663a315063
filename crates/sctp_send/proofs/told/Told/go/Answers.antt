use Rattle.std.proofs.Common.{subst}
use Rattle.sctp_send.specs.inner.Asking.{IsNext}
use Rattle.sctp_send.proofs.told.Told.go.Goals as goal

pub returns-in-Indexed-clause-put : goal.returns-in-Indexed-clause-put
returns-in-Indexed-clause-put g c = λ v k goes. c.put_entry.ensures.put v k c.in-Indexed.pending.again (subst (IsNext g.F.Framing.format v) c.in-Indexed.is goes.0) goes.1
