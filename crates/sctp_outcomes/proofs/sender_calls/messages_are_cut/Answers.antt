use Rattle.sctp_outcomes.proofs.sender.CutTold.{cut_is_computed}
use Rattle.sctp_outcomes.proofs.sender_calls.messages_are_cut.Goals as goal

pub returns : goal.returns
returns c = cut_is_computed
