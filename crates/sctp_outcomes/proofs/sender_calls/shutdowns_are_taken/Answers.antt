use Rattle.sctp_outcomes.proofs.sender.SackTold.{shutdown_fault_told, faulty_shutdown_is_dropped, shutdown_is_taken}
use Rattle.sctp_outcomes.proofs.sender_calls.shutdowns_are_taken.Goals as goal

pub returns-clause-faults : goal.returns-clause-faults
returns-clause-faults c = shutdown_fault_told

pub returns-clause-dropped : goal.returns-clause-dropped
returns-clause-dropped c = faulty_shutdown_is_dropped

pub returns-clause-taken : goal.returns-clause-taken
returns-clause-taken c = shutdown_is_taken
