use Rattle.sctp_outcomes.proofs.stories.ScriptClosing.{the_script_runs as it}
use Rattle.sctp_outcomes.proofs.examples.the_script_runs.Goals as goal

pub returns : goal.returns
returns c = it
