use Rattle.sctp_safety.proofs.runs.Courses.{beginnings_are_aged as it}
use Rattle.sctp_safety.proofs.two_ends.a_beginning_of_an_aged_run_is_aged.Goals as goal

pub returns : goal.returns
returns c = it
