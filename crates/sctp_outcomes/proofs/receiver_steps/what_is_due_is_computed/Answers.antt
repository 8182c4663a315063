use Rattle.sctp_outcomes.proofs.receiver.LawLemmas.{due_is_one}
use Rattle.sctp_outcomes.proofs.receiver.StepsLemmas.{due_is}
use Rattle.sctp_outcomes.proofs.receiver_steps.what_is_due_is_computed.Goals as goal

pub returns-clause-is : goal.returns-clause-is
returns-clause-is c = λ f r s depth n enough. due_is f r s depth n enough

pub returns-clause-only : goal.returns-clause-only
returns-clause-only c = due_is_one
