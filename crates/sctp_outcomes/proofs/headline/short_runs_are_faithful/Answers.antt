use Rattle.sctp_outcomes.proofs.users.Promised.{short_runs_are_faithful as it}
use Rattle.sctp_outcomes.proofs.headline.short_runs_are_faithful.Goals as goal

pub returns : goal.returns
returns c = it
