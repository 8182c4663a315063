use Rattle.std.proofs.Common.{◌-◌, ◌≤◌, Bool, length}
use denote.Param.Always.{always_mut}
use Rattle.std.specs.Fn.{ComputesKey}
use Rattle.sctp_sequence.proofs.PointLemmas.{Narrowed}
use Rattle.sctp_sequence.proofs.sequence.Sequence.partition_point.Given as goal

abbrev pub invariant-loop-low : goal.invariant-loop-low
invariant-loop-low g l =
    (l.low ≤ l.high) × (l.high ≤ length l.self-inside.rest.items) × always_mut g.P.FnMut l.pred
    × ((p : g.row.T.Denot → Bool) → ComputesKey g.P.FnMut p l.initial.pred → ComputesKey g.P.FnMut p l.pred × Narrowed p l.self-inside.rest.items l.low l.high)

abbrev pub decreases-loop-low : goal.decreases-loop-low
decreases-loop-low g l = l.high - l.low
