use Rattle.std.proofs.Common.{◌≤◌, length, arith}
use Rattle.sctp_send.proofs.kept.FateLemmas.{long_all, are_ended, ended_same}
use Rattle.sctp_send.proofs.kept.fates.Fates.end_block.Goals as goal

pub returns-then-len-lt-BLOCK-clause-given : goal.returns-then-len-lt-BLOCK-clause-given
returns-then-len-lt-BLOCK-clause-given c =
    let s = c.self.inside in
    let long = long_all s.ended s.blocks.items s.mixed.items s.recent.items c.self.invariant in
    rw (← c.self.view_is) (omega (arith, long))

pub returns-in-Err-clause-given : goal.returns-in-Err-clause-given
returns-in-Err-clause-given c =
    let s = c.self.inside in
    let long = long_all s.ended s.blocks.items s.mixed.items s.recent.items c.self.invariant in
    rw c.reserve.ensures.items (omega (arith, long))

pub returns-in_default-clause-given : goal.returns-in_default-clause-given
returns-in_default-clause-given c =
    let s = c.self.inside in
    let long = long_all s.ended s.blocks.items s.mixed.items s.recent.items c.self.invariant in
    rw (c.reserve.ensures.items, c.in_default.ensures.same) (omega (arith, long))

pub invariant_of-self-in-Some : goal.invariant_of-self-in-Some
invariant_of-self-in-Some c =
    let s = c.self.inside in
    let many : 4096 ≤ length s.recent.items = omega (arith, c.if-len-lt-BLOCK.false, c.len.ensures, s.recent.ok) in
    let is = rw c.deref.ensures.value at c.in-Some.ensures.block in
    rw (c.push_reserved.ensures.items, c.reserve.ensures.items, c.drop_front.ensures) (are_ended s.ended s.blocks.items c.in-Some.block s.mixed.items _ s.recent.items c.self.invariant many is)

pub returns-in-Some-clause-items : goal.returns-in-Some-clause-items
returns-in-Some-clause-items c =
    let s = c.self.inside in
    let is = rw c.deref.ensures.value at c.in-Some.ensures.block in
    rw (← c.self.view_is, c.push_reserved.ensures.items, c.reserve.ensures.items, c.drop_front.ensures) (ended_same s.ended s.blocks.items c.in-Some.block s.mixed.items _ s.recent.items c.self.invariant is)

pub returns-in-Some-clause-given : goal.returns-in-Some-clause-given
returns-in-Some-clause-given c =
    let s = c.self.inside in
    let long = long_all s.ended s.blocks.items s.mixed.items s.recent.items c.self.invariant in
    let many : 4096 ≤ length s.recent.items = omega (arith, c.if-len-lt-BLOCK.false, c.len.ensures, s.recent.ok) in
    let is = rw c.deref.ensures.value at c.in-Some.ensures.block in
    rw (c.push_reserved.ensures.items, c.reserve.ensures.items, c.drop_front.ensures, ended_same s.ended s.blocks.items c.in-Some.block s.mixed.items _ s.recent.items c.self.invariant is) (omega (arith, long, many))
