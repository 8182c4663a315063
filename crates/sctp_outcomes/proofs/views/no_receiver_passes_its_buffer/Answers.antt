use Rattle.sctp_outcomes.proofs.InOrder.{buffers_hold as it}
use Rattle.sctp_outcomes.proofs.views.no_receiver_passes_its_buffer.Goals as goal

pub returns : goal.returns
returns c = it
