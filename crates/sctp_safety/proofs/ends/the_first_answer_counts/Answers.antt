use Rattle.sctp_safety.proofs.machine.TwoAnswers.{the_first_answer_counts as it}
use Rattle.sctp_safety.proofs.ends.the_first_answer_counts.Goals as goal

pub returns : goal.returns
returns c = it
