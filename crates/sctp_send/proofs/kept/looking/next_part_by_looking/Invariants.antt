use Rattle.std.proofs.Common.{◌≡◌, ℕ, ◌<◌, ◌≤◌, map, false}
use Rattle.sctp_send.specs.SenderFields.{track_meaning}
use Rattle.sctp_send.specs.inner.Newcomers.{rest_at, has_rest}
use Rattle.sctp_send.proofs.kept.looking.next_part_by_looking.Given as goal

abbrev pub invariant-loop-stream : goal.invariant-loop-stream
invariant-loop-stream l = (size j : ℕ) → l.from ≤ j → j < l.stream → has_rest (rest_at (map (track_meaning size) l.tracks) j) ≡ false
