use Rattle.sctp_safety.proofs.runs.Courses.{short_runs_are_aged as it}
use Rattle.sctp_safety.proofs.two_ends.a_short_run_is_aged.Goals as goal

pub returns : goal.returns
returns c = it
