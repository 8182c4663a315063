use Rattle.sctp_outcomes.proofs.Untouched.{strays_change_nothing, drops_change_nothing}
use Rattle.sctp_outcomes.proofs.steps.packets_leave_no_trace.Goals as goal

pub returns-clause-strays : goal.returns-clause-strays
returns-clause-strays c = strays_change_nothing

pub returns-clause-drops : goal.returns-clause-drops
returns-clause-drops c = drops_change_nothing
