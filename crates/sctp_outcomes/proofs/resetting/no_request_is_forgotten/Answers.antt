use Rattle.sctp_outcomes.proofs.resets.AskingRuns.{no_request_is_forgotten as it}
use Rattle.sctp_outcomes.proofs.resetting.no_request_is_forgotten.Goals as goal

pub returns : goal.returns
returns c = it
