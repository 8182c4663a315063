use Rattle.std.proofs.Common.{inl, inr, refl}
use Rattle.sctp_model.specs.end.UserCalls as model
use Rattle.sctp_end.proofs.replies.abort_refused.Goals as goal

pub returns-in-State : goal.returns-in-State
returns-in-State c = λ v reason answer. inl (model.NoPeer, rw c.in-State.is at answer, refl, refl, λ counts. refl)

pub returns-in-TooLong : goal.returns-in-TooLong
returns-in-TooLong c = λ v reason answer. inl (model.TooLong, rw c.in-TooLong.is at answer, refl, refl, λ counts. refl)

pub returns-in-NoMemory : goal.returns-in-NoMemory
returns-in-NoMemory c = λ v reason answer. inr refl
