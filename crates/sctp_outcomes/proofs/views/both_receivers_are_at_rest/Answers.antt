use Rattle.sctp_outcomes.proofs.InOrder.{receivers_are_at_rest as it}
use Rattle.sctp_outcomes.proofs.views.both_receivers_are_at_rest.Goals as goal

pub returns : goal.returns
returns c = it
