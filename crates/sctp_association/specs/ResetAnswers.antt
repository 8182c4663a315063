-- What the user's calls that reset streams answer, in terms of an endpoint's view, and what they leave (RFC 6525, 5.1 and 6).
use Rattle.std.specs.Prelude.{◌≡◌, ℕ, Option, None, Some, Result, Ok, Err}
use Rattle.sctp_model.specs.receiver.ResetTaken.{old_waiting}
use Rattle.sctp_model.specs.end.EndView.{EndView}
use Rattle.sctp_model.specs.end.UserCalls.{Begun, NotAgreed, NoStream, reset_call, reset_leaves, reset_there, told_leaves}
use Rattle.sctp_terms.specs.declared.calls.ResetFault.{ResetFault}
use Rattle.sctp_terms.specs.declared.calls.ResetFault.TheVariants.{State, NoSuchStream, NoMemory}
use Rattle.sctp_recv.specs.declared.restart.Reset.{Reset}

-- ---- a reset of one's own

-- The answer is that of the definitions; want of memory is told only where the reset would begin.
abbrev pub ResetAnswers : EndView → (stream : ℕ) → Result (Unit {0}) ResetFault → Type 0
ResetAnswers v s (Ok _) = reset_call v s ≡ Begun
ResetAnswers v s (Err State) = reset_call v s ≡ NotAgreed
ResetAnswers v s (Err NoSuchStream) = reset_call v s ≡ NoStream
ResetAnswers v s (Err NoMemory) = reset_call v s ≡ Begun

-- only a reset that begins leaves another view
abbrev pub reset_view : EndView → (stream : ℕ) → Result (Unit {0}) ResetFault → EndView
reset_view v s (Ok _) = reset_leaves Begun v s
reset_view v s (Err why) = v

-- ---- a reset of the peer's

-- The lowest stream of which a reset wasn't reported, and how many of its messages that wait were delivered before; none exactly if there is no such stream.
abbrev pub ToldAnswers : EndView → Option Reset → Type 0
ToldAnswers v None = reset_there v ≡ None
ToldAnswers v (Some r) = (reset_there v ≡ Some r.stream) × (r.count ≡ old_waiting v.receiver r.stream)

-- the stream is reported
abbrev pub told_view : EndView → Option Reset → EndView
told_view v None = v
told_view v (Some r) = told_leaves (Some r.stream) v
