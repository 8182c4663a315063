-- An ACK that the endpoint refuses is still due.
use Rattle.std.proofs.Common.{◌≡◌, ℕ, true, false, Some, inl, inr, refl}
use Rattle.sctp_model.specs.world.Calls.{Call}
use Rattle.sctp_model.specs.sender.Queueing.{Refusal, refusal}
use Rattle.sctp_model.specs.end.EndView.{EndView}
use Rattle.sctp_model.specs.end.UserCalls.{send_answer, is_established}
use Rattle.sctp_model.specs.end.Closing.{hears}
use Rattle.sctp_send.specs.declared.queueing.SendFault.TheVariants.{NoSuchStream, Resetting, Empty, TooLong, QueueFull, Spent, NoMemory}
use Rattle.sctp_association.specs.CallAnswers.{SendAnswers}
use Rattle.sctp_association.specs.declared.user.calls.Refused.{Refused}
use Rattle.sctp_association.specs.declared.user.calls.Refused.TheVariants.{NotOpen, Fault}
use Rattle.sctp_channels.specs.declared.stream.Stream.{Stream}
use Rattle.sctp_channels.specs.Calling.{ack_call}
use Rattle.sctp_channels.specs.Settling.{acknowledged}
use Rattle.sctp_channels.specs.Answers.{Refuses}
use Rattle.sctp_channels.specs.inner.Settles.{wants_memory}

-- the machine refuses it
by_refusal : (v : EndView) (k : Call) (s : ℕ) (x : Stream) (m : Refusal) → hears is_established v.phase ≡ true → refusal v.sender k.lane.stream k.bytes ≡ Some m
    → acknowledged (send_answer v k) v s x ≡ record { view = v; stream = x }
by_refusal v k s x m stands is = rw (stands, is) refl

pub refused_settles : (v : EndView) (s : ℕ) (x : Stream) (why : Refused) → wants_memory why ≡ false → Refuses v (SendAnswers v (ack_call s)) why
    → acknowledged (send_answer v (ack_call s)) v s x ≡ record { view = v; stream = x }
refused_settles v s x NotOpen kept (inl is) = rw is refl
refused_settles v s x NotOpen kept (inr same) = absurd (cc)
refused_settles v s x (Fault NoSuchStream) kept (inl is) = by_refusal v (ack_call s) s x _ is.0 is.1
refused_settles v s x (Fault NoSuchStream) kept (inr same) = absurd (cc)
refused_settles v s x (Fault Resetting) kept (inl is) = by_refusal v (ack_call s) s x _ is.0 is.1
refused_settles v s x (Fault Resetting) kept (inr same) = absurd (cc)
refused_settles v s x (Fault Empty) kept (inl is) = by_refusal v (ack_call s) s x _ is.0 is.1
refused_settles v s x (Fault Empty) kept (inr same) = absurd (cc)
refused_settles v s x (Fault TooLong) kept (inl is) = by_refusal v (ack_call s) s x _ is.0 is.1
refused_settles v s x (Fault TooLong) kept (inr same) = absurd (cc)
refused_settles v s x (Fault QueueFull) kept (inl is) = by_refusal v (ack_call s) s x _ is.0 is.1
refused_settles v s x (Fault QueueFull) kept (inr same) = absurd (cc)
refused_settles v s x (Fault Spent) kept (inl is) = by_refusal v (ack_call s) s x _ is.0 is.1
refused_settles v s x (Fault Spent) kept (inr same) = absurd (cc)
refused_settles v s x (Fault NoMemory) kept is = absurd (cc)
