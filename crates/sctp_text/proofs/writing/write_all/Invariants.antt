use Rattle.std.proofs.Common.{◌≡◌, ℕ, ◌≤◌, length, take, drop}
use Rattle.sctp_text.proofs.writing.write_all.Given as goal

-- a first part of the bytes is written, and no call has failed
abbrev pub invariant-loop-rest : goal.invariant-loop-rest
invariant-loop-rest g l =
    (count : ℕ) × (count ≤ length l.bytes) × (l.rest ≡ drop count l.bytes)
    × g.W.Sink.Writes l.fn.sink (take count l.bytes) l.sink
    × (g.W.Sink.failures l.sink ≡ g.W.Sink.failures l.fn.sink)

abbrev pub decreases-loop-rest : goal.decreases-loop-rest
decreases-loop-rest g l = length l.rest
