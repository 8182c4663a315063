use Rattle.sctp_safety.proofs.runs.Courses.{each_world_is_safe as it}
use Rattle.sctp_safety.proofs.two_ends.each_world_on_the_way_is_safe.Goals as goal

pub returns : goal.returns
returns c = it
