-- The views that a sender's calls reach.
use Rattle.std.specs.Prelude.{◌≡◌, ℕ, ◌<◌, Bool, true, List, Option, None, Some}
use Rattle.sctp_model.specs.messages.Format.{Format, Lane}
use Rattle.sctp_model.specs.wire.Chunk.{SackMeaning}
use Rattle.sctp_model.specs.sender.Outgoing.{Outgoing}
use Rattle.sctp_model.specs.sender.SenderView.{SenderView, fresh_sender, SendLimits}
use Rattle.sctp_model.specs.sender.Queueing.{refusal, queued}
use Rattle.sctp_model.specs.sender.Filling.{Wish, next_wish, may_go, gone}
use Rattle.sctp_model.specs.sender.SackTaken.{sack_fault, sack_taken, shutdown_fault, shutdown_taken}
use Rattle.sctp_model.specs.sender.Abandoning.{abandon_after, marking}

-- One step each: a message is queued, a wish goes into a packet, a SACK or a SHUTDOWN is taken, a ticket is abandoned; indexes are marked for
-- retransmission, since the data timer expired or they were missed; and what it knows of resets may be anything.
pub data IsReached (f : Format) : SenderView → Type 0 where
  Begins : (initial streams fragment rwnd : ℕ) (partial : Bool) (limits : SendLimits) → 0 < fragment
      → IsReached f (fresh_sender initial streams fragment rwnd partial limits)
  Queues : (v : SenderView) (lane : Lane) (payload : ℕ) (bytes : List ℕ) (until limit : Option ℕ) → IsReached f v → refusal v lane.stream bytes ≡ None
      → IsReached f (queued v lane payload bytes until limit)
  Goes : (v : SenderView) (room : ℕ) (w : Wish) → IsReached f v → next_wish f v ≡ Some w → may_go f room w ≡ true → IsReached f (gone w)
  Covers : (v : SenderView) (x : SackMeaning) → IsReached f v → sack_fault v x ≡ None → IsReached f (sack_taken v x)
  Closes : (v : SenderView) (wire : ℕ) → IsReached f v → shutdown_fault v wire ≡ None → IsReached f (shutdown_taken v wire)
  Abandons : (v : SenderView) (t : ℕ) → IsReached f v → IsReached f (abandon_after v t)
  Repeats : (v : SenderView) (test : ℕ → Bool) → IsReached f v → IsReached f (marking v test)
  Rebases : (v : SenderView) (x : Outgoing) → IsReached f v → IsReached f (record v { resets = x })
