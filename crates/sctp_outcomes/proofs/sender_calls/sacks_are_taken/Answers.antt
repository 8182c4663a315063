use Rattle.sctp_outcomes.proofs.sender.SackTold.{sack_fault_told, faulty_is_dropped, sack_is_taken, taken_has_none}
use Rattle.sctp_outcomes.proofs.sender_calls.sacks_are_taken.Goals as goal

pub returns-clause-faults : goal.returns-clause-faults
returns-clause-faults c = sack_fault_told

pub returns-clause-dropped : goal.returns-clause-dropped
returns-clause-dropped c = faulty_is_dropped

pub returns-clause-taken : goal.returns-clause-taken
returns-clause-taken c = sack_is_taken

pub returns-clause-only : goal.returns-clause-only
returns-clause-only c = taken_has_none
