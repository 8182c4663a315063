use Rattle.sctp_model.proofs.receiver.OneSack.{sack_only}
use Rattle.sctp_outcomes.proofs.receiver.RunsLemmas.{runs_are}
use Rattle.sctp_outcomes.proofs.receiver_steps.runs_are_computed.Goals as goal

pub returns-clause-computed : goal.returns-clause-computed
returns-clause-computed c = runs_are

pub returns-clause-one : goal.returns-clause-one
returns-clause-one c = sack_only
