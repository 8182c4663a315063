use Rattle.std.proofs.Common.{◌≡◌, ◌<◌, ◌%◌, ◌^◌, map, take, filter}
use Rattle.sctp_send.specs.SenderFields.{queued_by}
use Rattle.sctp_send.specs.Waiting.{waiting_bytes, is_on_with}
use Rattle.sctp_send.proofs.readers.queued_on.bytes_on.Given as goal

abbrev pub invariant-loop-at : goal.invariant-loop-at
invariant-loop-at l = 0 < l.queue.size → l.bytes ≡ waiting_bytes (filter (is_on_with l.stream l.payload_ids) (take l.at (map (queued_by l.queue.size) l.queue.items))) % 2 ^ 64
