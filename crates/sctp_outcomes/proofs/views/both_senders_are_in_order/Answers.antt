use Rattle.sctp_outcomes.proofs.InOrder.{senders_are_in_order, both_senders_are_in_order}
use Rattle.sctp_outcomes.proofs.views.both_senders_are_in_order.Goals as goal

pub returns : goal.returns
returns c = record { each = senders_are_in_order; both = both_senders_are_in_order }
