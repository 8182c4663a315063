use Rattle.std.proofs.Common.{◌≡◌, ◌^◌, ◌<◌, nat_lt, length, map}
use Rattle.sctp_recv.specs.Fields.{stream_of}
use Rattle.sctp_recv.specs.Resets.{resets_of, AreAll}
use Rattle.sctp_recv.specs.inner.Restarting.{AreRestarted}
use Rattle.sctp_recv.proofs.renumbering.restart_all.Given as goal

-- the streams before this one begin anew
abbrev pub invariant-loop-stream : goal.invariant-loop-stream
invariant-loop-stream g l = record {
  restarts : AreAll (length l.streams.items) (resets_of l.fn.resets) → length l.streams.items < 2 ^ 16 → AreRestarted l.again (map stream_of l.streams.items) (λ s. nat_lt s l.stream) (resets_of l.fn.resets) (resets_of l.resets);
  answers : l.resets.answers ≡ l.fn.resets.answers;
  named : l.resets.named ≡ l.fn.resets.named;
  count : length l.streams.items < 2 ^ 16 → l.count ≡ length l.streams.items;
}
