use Rattle.sctp_outcomes.proofs.logs.Built.{builds_add_numbers as it}
use Rattle.sctp_outcomes.proofs.kept.packets_note_their_numbers.Goals as goal

pub returns : goal.returns
returns c = it
