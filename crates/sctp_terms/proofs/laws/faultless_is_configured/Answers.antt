use Rattle.sctp_terms.proofs.FaultLemmas.{without_fault}
use Rattle.sctp_terms.proofs.laws.faultless_is_configured.Goals as goal

pub returns-clause-within : goal.returns-clause-within
returns-clause-within c = without_fault
