use Rattle.sctp_safety.proofs.sending.AbandonedLemmas.{abandon_is_taken}
use Rattle.sctp_safety.proofs.told.a_message_is_abandoned_by_its_ticket.Goals as goal

pub returns : goal.returns
returns c = abandon_is_taken
