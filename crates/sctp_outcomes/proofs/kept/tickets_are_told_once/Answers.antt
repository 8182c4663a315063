use Rattle.sctp_outcomes.proofs.TellingRuns.{builds_tell_anew, runs_tell_anew}
use Rattle.sctp_outcomes.proofs.kept.tickets_are_told_once.Goals as goal

pub returns-clause-builds : goal.returns-clause-builds
returns-clause-builds c = builds_tell_anew

pub returns-clause-runs : goal.returns-clause-runs
returns-clause-runs c = runs_tell_anew
