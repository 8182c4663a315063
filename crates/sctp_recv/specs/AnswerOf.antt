-- The answers as the model's.
use Rattle.std.specs.Prelude.{ℕ, suc, ◌<◌, length}
use Rattle.sctp_model.specs.numbers.Limits.{DUPLICATE_LIMIT}
use Rattle.sctp_model.specs.receiver.ReceiverView.{ReceiverView}
use Rattle.sctp_model.specs.receiver.PieceTaken as model
use Rattle.sctp_model.specs.receiver.ForwardTaken as model_forward
use Rattle.sctp_recv.specs.declared.answer.Answer.{Answer}
use Rattle.sctp_recv.specs.declared.answer.Answer.TheVariants.{Duplicate, Ahead, NoSuchStream, Passed, NoRoom, Taken}
use Rattle.sctp_recv.specs.declared.forward.ForwardAnswer.{ForwardAnswer}
use Rattle.sctp_recv.specs.declared.forward.ForwardAnswer.TheVariants.{OutOfDate, Bad, Moved}

-- what a data chunk is answered
abbrev pub answer_of : Answer → model.PieceAnswer
answer_of Duplicate = model.Duplicate
answer_of Ahead = model.Ahead
answer_of NoSuchStream = model.NoSuchStream
answer_of Passed = model.Passed
answer_of NoRoom = model.NoRoom
answer_of Taken = model.Kept

-- What is done with a chunk of this index and answer needs memory: a TSN that came again is noted while there is room for it in a SACK, and
-- an index is recorded by itself where a gap lies before it.
abbrev pub NeedsMemory : ReceiverView → (c index : ℕ) → model.PieceAnswer → Type 0
NeedsMemory v c i model.Duplicate = length v.duplicates < DUPLICATE_LIMIT
NeedsMemory v c i model.Ahead = ⊥
NeedsMemory v c i model.NoSuchStream = suc c < i
NeedsMemory v c i model.Passed = suc c < i
NeedsMemory v c i model.NoRoom = ⊥
NeedsMemory v c i model.Kept = Unit {0}

-- what a FORWARD is answered
abbrev pub forward_answer_of : ForwardAnswer → model_forward.ForwardAnswer
forward_answer_of OutOfDate = model_forward.OutOfDate
forward_answer_of Bad = model_forward.Bad
forward_answer_of Moved = model_forward.Moved
