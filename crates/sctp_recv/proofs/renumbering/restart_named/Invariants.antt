use Rattle.std.proofs.Common.{◌≡◌, ℕ, Bool, length, map}
use Rattle.std.specs.Prelude.{◌||◌}
use Rattle.sctp_model.specs.sender.Outgoing.{lists}
use Rattle.sctp_recv.specs.Fields.{stream_of}
use Rattle.sctp_recv.specs.Resets.{resets_of, AreAll}
use Rattle.sctp_recv.specs.inner.Restarting.{AreRestarted}
use Rattle.sctp_recv.specs.inner.Requesting.{AreLow}
use Rattle.sctp_recv.proofs.renumbering.restart_named.Given as goal

-- the streams before those that are left begin anew
abbrev pub invariant-loop-stream : goal.invariant-loop-stream
invariant-loop-stream g l = record {
  restarts : AreAll (length l.streams.items) (resets_of l.fn.resets) → AreLow (length l.streams.items) l.fn.named →
      (p : ℕ → Bool) × AreRestarted l.again (map stream_of l.streams.items) p (resets_of l.fn.resets) (resets_of l.resets) × ((s : ℕ) → lists l.fn.named s ≡ (p s || lists l.stream-iterator s)) × AreLow (length l.streams.items) l.stream-iterator;
  answers : l.resets.answers ≡ l.fn.resets.answers;
  named : l.resets.named ≡ l.fn.resets.named;
}
