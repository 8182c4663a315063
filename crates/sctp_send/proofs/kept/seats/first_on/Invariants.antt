use Rattle.std.proofs.Common.{ℕ, map}
use Rattle.sctp_send.specs.SenderFields.{queued_by}
use Rattle.sctp_send.specs.inner.Owning.{messages_of}
use Rattle.sctp_send.proofs.fill.TurnLemmas.{IsPassedOn}
use Rattle.sctp_send.proofs.kept.seats.first_on.Given as goal

abbrev pub invariant-loop-at : goal.invariant-loop-at
invariant-loop-at l = (size : ℕ) → IsPassedOn l.stream l.at (map (queued_by size) (messages_of l.messages.items))
