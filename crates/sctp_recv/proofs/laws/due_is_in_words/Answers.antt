use Rattle.sctp_model.proofs.receiver.DueWords.{due_in_words}
use Rattle.sctp_recv.proofs.laws.due_is_in_words.Goals as goal

pub returns : goal.returns
returns c = λ f r s n ms m apart due. due_in_words f r s apart n ms m due
