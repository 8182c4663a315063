use Rattle.std.proofs.Common.{inl, refl}
use Rattle.sctp_model.specs.end.UserCalls.{NotOpen}
use Rattle.sctp_end.proofs.replies.send_refused.Goals as goal

pub returns-in-NotOpen : goal.returns-in-NotOpen
returns-in-NotOpen c = λ v m answer. inl (NotOpen, rw c.in-NotOpen.is at answer, refl, refl)

pub returns-in-Fault : goal.returns-in-Fault
returns-in-Fault c = λ v m answer. c.fault_told.ensures v m (rw c.in-Fault.is at answer)
