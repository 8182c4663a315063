use Rattle.std.proofs.Common.{◌+◌, arith}
use Rattle.sctp_recv.proofs.RunBounds.{few}
use Rattle.sctp_recv.proofs.seen.Seen.run_count.Goals as goal

pub overflow_cast-result : goal.overflow_cast-result
overflow_cast-result c =
    let s = c.self.inside in
    let window = few s.cumulative (s.cumulative + 32767) s.runs.items c.self.invariant.runs c.self.invariant.within (omega arith) in
    omega (arith, window, c.len.ensures)

pub returns-clause-bound : goal.returns-clause-bound
returns-clause-bound c =
    let s = c.self.inside in
    let window = few s.cumulative (s.cumulative + 32767) s.runs.items c.self.invariant.runs c.self.invariant.within (omega arith) in
    omega (arith, window, c.len.ensures)
