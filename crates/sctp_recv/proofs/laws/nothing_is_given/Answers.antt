use Rattle.sctp_model.proofs.receiver.OneStep.{all_only}
use Rattle.sctp_model.proofs.receiver.Idle.{nothing_given_anywhere}
use Rattle.sctp_recv.proofs.laws.nothing_is_given.Goals as goal

pub returns : goal.returns
returns c = λ f n r t apart idle settled given. all_only f n r t r apart given (nothing_given_anywhere f n r idle settled)
