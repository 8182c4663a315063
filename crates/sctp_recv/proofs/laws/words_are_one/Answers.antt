use Rattle.sctp_model.proofs.receiver.DueWords.{words_only}
use Rattle.sctp_recv.proofs.laws.words_are_one.Goals as goal

pub returns : goal.returns
returns c = words_only
