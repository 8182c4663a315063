use Rattle.std.proofs.Common.{◌≡◌, ◌≤◌, ℕ, map, drop}
use Rattle.sctp_send.specs.SenderFields.{track_meaning}
use Rattle.sctp_send.specs.inner.Walks.{any_rest}
use Rattle.sctp_send.proofs.kept.looking.are_past.Given as goal

abbrev pub invariant-loop-at : goal.invariant-loop-at
invariant-loop-at l = (size t : ℕ) → t ≤ l.last → any_rest t (map (track_meaning size) l.tracks) ≡ any_rest t (drop l.at (map (track_meaning size) l.tracks))
