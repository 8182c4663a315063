use Rattle.std.proofs.Common.{refl, sym, true}
use Rattle.sctp_association.proofs.CallLemmas.{hears_not, heard}
use Rattle.sctp_association.proofs.machine.Machine.is_established.Goals as goal

pub returns-in-Some : goal.returns-in-Some
returns-in-Some c = λ v stands. sym (heard v.phase _ _ _ c.is_established.result (c.in-Some.ensures v stands) c.is_established.ensures.established refl)

pub returns-in-None : goal.returns-in-None
returns-in-None c = λ v stands. sym (hears_not v.phase (c.in-None.ensures v stands (λ g. true)))
