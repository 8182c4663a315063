use Rattle.sctp_outcomes.proofs.resets.ReadyAsked.{ready_is_asked_for as it}
use Rattle.sctp_outcomes.proofs.resetting.ready_streams_are_asked_for.Goals as goal

pub returns : goal.returns
returns c = it
