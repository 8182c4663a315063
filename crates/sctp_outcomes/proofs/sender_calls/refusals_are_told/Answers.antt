use Rattle.sctp_outcomes.proofs.sender.RefusalTold.{refusal_is_told, accepted_has_no_reason}
use Rattle.sctp_outcomes.proofs.sender_calls.refusals_are_told.Goals as goal

pub returns-clause-told : goal.returns-clause-told
returns-clause-told c = refusal_is_told

pub returns-clause-accepted : goal.returns-clause-accepted
returns-clause-accepted c = accepted_has_no_reason
