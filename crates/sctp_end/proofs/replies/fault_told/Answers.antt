use Rattle.std.proofs.Common.{inr, refl}
use Rattle.sctp_model.specs.sender.Queueing as queueing
use Rattle.sctp_end.proofs.SessionLemmas.{refuses}
use Rattle.sctp_end.proofs.replies.fault_told.Goals as goal

pub returns-in-NoSuchStream : goal.returns-in-NoSuchStream
returns-in-NoSuchStream c = λ v m answer. let told = rw c.in-NoSuchStream.is at answer in refuses v m queueing.NoSuchStream told.0 told.1

pub returns-in-Empty : goal.returns-in-Empty
returns-in-Empty c = λ v m answer. let told = rw c.in-Empty.is at answer in refuses v m queueing.Empty told.0 told.1

pub returns-in-TooLong : goal.returns-in-TooLong
returns-in-TooLong c = λ v m answer. let told = rw c.in-TooLong.is at answer in refuses v m queueing.TooLong told.0 told.1

pub returns-in-QueueFull : goal.returns-in-QueueFull
returns-in-QueueFull c = λ v m answer. let told = rw c.in-QueueFull.is at answer in refuses v m queueing.QueueFull told.0 told.1

pub returns-in-Spent : goal.returns-in-Spent
returns-in-Spent c = λ v m answer. let told = rw c.in-Spent.is at answer in refuses v m queueing.Spent told.0 told.1

pub returns-in-NoMemory : goal.returns-in-NoMemory
returns-in-NoMemory c = λ v m answer. inr refl
