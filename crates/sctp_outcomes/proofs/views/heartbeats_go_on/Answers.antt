use Rattle.sctp_outcomes.proofs.BeatingRuns.{beats_go_on}
use Rattle.sctp_outcomes.proofs.views.heartbeats_go_on.Goals as goal

pub returns : goal.returns
returns c = beats_go_on
