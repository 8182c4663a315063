use Rattle.std.proofs.Common.{◌≡◌, ℕ, ◌<◌, ◌≤◌, map, None}
use Rattle.sctp_model.specs.sender.Assigning.{first_on}
use Rattle.sctp_send.specs.SenderFields.{queued_by}
use Rattle.sctp_send.specs.inner.Owning.{messages_of}
use Rattle.sctp_send.proofs.kept.seats.next_by_looking.Given as goal

abbrev pub invariant-loop-stream : goal.invariant-loop-stream
invariant-loop-stream l = (size s : ℕ) → l.from ≤ s → s < l.stream → first_on s (map (queued_by size) (messages_of l.messages.items)) ≡ None
