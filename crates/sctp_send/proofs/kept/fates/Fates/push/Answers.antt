use Rattle.std.proofs.Common.{arith}
use Rattle.std.proofs.lemmas.List.{length_push}
use Rattle.sctp_send.proofs.kept.FateLemmas.{long_all}
use Rattle.sctp_send.proofs.kept.fates.Fates.push.Goals as goal

pub push_reserved-requires : goal.push_reserved-requires
push_reserved-requires c =
    let s = c.self.inside in
    let long = long_all s.ended s.blocks.items s.mixed.items s.recent.items c.self.invariant in
    let room = rw (← c.self.view_is) at c.requires.room in
    omega (arith, long, room, s.recent.ok)

pub invariant_of-self : goal.invariant_of-self
invariant_of-self c =
    let s = c.self.inside in
    let long = long_all s.ended s.blocks.items s.mixed.items s.recent.items c.self.invariant in
    let few = rw (← c.self.view_is) at c.requires.few in
    let more = length_push s.recent.items c.args.fate in
    rw c.push_reserved.ensures.items (record { many = c.self.invariant.many; within = c.self.invariant.within; few = omega (arith, long, more, few) })
