use Rattle.sctp_safety.proofs.runs.Courses.{passing_is_a_run, runs_have_worlds, runs_go_on, beginnings_are_runs, passing_goes_on}
use Rattle.sctp_safety.proofs.two_ends.a_run_passes_its_worlds.Goals as goal

pub returns-clause-run : goal.returns-clause-run
returns-clause-run c = passing_is_a_run

pub returns-clause-worlds : goal.returns-clause-worlds
returns-clause-worlds c = runs_have_worlds

pub returns-clause-goes_on : goal.returns-clause-goes_on
returns-clause-goes_on c = runs_go_on

pub returns-clause-begins : goal.returns-clause-begins
returns-clause-begins c = beginnings_are_runs

pub returns-clause-passes_on : goal.returns-clause-passes_on
returns-clause-passes_on c = passing_goes_on
