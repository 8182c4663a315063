use Rattle.std.proofs.Common.{◌≡◌, ℕ, map, drop}
use Rattle.sctp_send.specs.SenderFields.{queued_by}
use Rattle.sctp_send.proofs.abandon.UntilLemmas.{with_ticket}
use Rattle.sctp_send.proofs.abandon.moments.until_waiting.Given as goal

abbrev pub invariant-loop-at : goal.invariant-loop-at
invariant-loop-at l = (size : ℕ) → with_ticket l.ticket (map (queued_by size) l.queue.items) ≡ with_ticket l.ticket (drop l.at (map (queued_by size) l.queue.items))
