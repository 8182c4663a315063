use Rattle.sctp_outcomes.proofs.receiver.LawLemmas.{forwards_so}
use Rattle.sctp_outcomes.proofs.receiver.StepsLemmas.{forward_steps}
use Rattle.sctp_outcomes.proofs.receiver_steps.forwards_are_computed.Goals as goal

pub returns-clause-taken : goal.returns-clause-taken
returns-clause-taken c = forward_steps

pub returns-clause-only : goal.returns-clause-only
returns-clause-only c = forwards_so
