use Rattle.std.proofs.Common.{◌≡◌, ℕ, ◌++◌, map, take, drop}
use Rattle.sctp_model.specs.sender.Abandoning.{without}
use Rattle.sctp_send.specs.SenderFields.{queued_by}
use Rattle.sctp_send.proofs.abandon.place_of.Given as goal

abbrev pub invariant-loop-at : goal.invariant-loop-at
invariant-loop-at l = (size : ℕ) → without l.ticket (map (queued_by size) l.queue.items) ≡ take l.at (map (queued_by size) l.queue.items) ++ without l.ticket (drop l.at (map (queued_by size) l.queue.items))
