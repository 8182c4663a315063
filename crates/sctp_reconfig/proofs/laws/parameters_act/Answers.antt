use Rattle.sctp_reconfig.proofs.ActingLemmas.{value_acts}
use Rattle.sctp_reconfig.proofs.laws.parameters_act.Goals as goal

pub returns : goal.returns
returns c = value_acts
