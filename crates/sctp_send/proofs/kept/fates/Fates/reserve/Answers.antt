use Rattle.std.proofs.Common.{arith}
use Rattle.sctp_send.proofs.kept.FateLemmas.{long_all}
use Rattle.sctp_send.proofs.kept.fates.Fates.reserve.Goals as goal
use Rattle.sctp_send.proofs.kept.fates.Fates.reserve.Goals.{in-Ok, in-Err}

pub returns-clause-room : goal.returns-clause-room
returns-clause-room c =
    let s = c.self.inside in
    let long = long_all s.ended s.blocks.items s.mixed.items s.recent.items c.self.invariant in
    elim c.match-reserve.branch [
      | in-Ok w ↦ rw (w.result-is, c.reserve.ensures.items) (let room = w.in-Ok.ensures.ok in omega (arith, long, room, c.reserve.ensures.len, s.recent.ok))
      | in-Err w ↦ rw w.result-is tt
    ]

pub returns-then-len-capacity-clause-room : goal.returns-then-len-capacity-clause-room
returns-then-len-capacity-clause-room c =
    let s = c.self.inside in
    let long = long_all s.ended s.blocks.items s.mixed.items s.recent.items c.self.invariant in
    rw (← c.self.view_is) (omega (arith, long, c.if-len-capacity.true, c.len.ensures, c.capacity.ensures, s.recent.ok))
