use Rattle.sctp_safety.proofs.sending.ToldLemmas.{acknowledged_is_told, abandoned_is_told, answer_is_told}
use Rattle.sctp_safety.proofs.told.a_message_is_told_by_its_ticket.Goals as goal

pub returns-clause-acknowledged : goal.returns-clause-acknowledged
returns-clause-acknowledged c = acknowledged_is_told

pub returns-clause-abandoned : goal.returns-clause-abandoned
returns-clause-abandoned c = abandoned_is_told

pub returns-clause-answer : goal.returns-clause-answer
returns-clause-answer c = answer_is_told
