use Rattle.sctp_association.proofs.machine.Machine.finished.Goals as goal

pub returns-in-Err-clause-stands : goal.returns-in-Err-clause-stands
returns-in-Err-clause-stands c = c.recycle.ensures.stands
