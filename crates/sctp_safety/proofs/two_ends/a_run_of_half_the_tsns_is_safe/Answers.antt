use Rattle.sctp_safety.proofs.runs.Safety.{short_runs_are_safe as it}
use Rattle.sctp_safety.proofs.two_ends.a_run_of_half_the_tsns_is_safe.Goals as goal

pub returns : goal.returns
returns c = it
