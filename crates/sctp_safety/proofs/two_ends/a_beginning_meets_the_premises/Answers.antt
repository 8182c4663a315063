use Rattle.sctp_safety.proofs.runs.Courses.{beginnings_meet_the_premises as it}
use Rattle.sctp_safety.proofs.two_ends.a_beginning_meets_the_premises.Goals as goal

pub returns : goal.returns
returns c = it
