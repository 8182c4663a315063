use Rattle.sctp_safety.proofs.runs.UnlimitedRuns.{unlimited_runs_are_safe as it}
use Rattle.sctp_safety.proofs.two_ends.a_run_without_limits_is_safe.Goals as goal

pub returns : goal.returns
returns c = it
