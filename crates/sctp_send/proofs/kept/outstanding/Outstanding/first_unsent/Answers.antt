use Rattle.std.proofs.Common.{refl, ◌<◌, ◌≤◌, length, arith}
use Rattle.std.specs.VecDeque.{deque_capacity}
use Rattle.sctp_send.specs.inner.Wishing.{is_item_unsent}
use Rattle.sctp_send.proofs.kept.CursorLemmas.{none_found}
use Rattle.sctp_send.proofs.kept.CountLemmas.{counts_unsent}
use Rattle.sctp_send.proofs.kept.TicketWalks.{recounted}
use Rattle.sctp_send.proofs.kept.outstanding.Outstanding.first_unsent.Goals as goal

pub invariant_of-self : goal.invariant_of-self
invariant_of-self c =
    let s = c.self.inside in
    let h = c.self.invariant in
    let e = c.first_from-at.ensures in
    recounted s.size s.entries.items (deque_capacity s.entries) s.counts _ s.by_ticket s.room s.stretches.items (counts_unsent s.size s.entries.items s.counts c.first_from-at.result e.within (e.none s.size h.counted.unsent) h.counted) refl h

pub returns-then-at-len-clause-first : goal.returns-then-at-len-clause-first
returns-then-at-len-clause-first c =
    let s = c.self.inside in
    let lt : c.first_from-at.result < length s.entries.items = omega (arith, c.len.ensures, s.entries.ok.0, c.if-at-len.true) in
    rw (← c.self.view_is) (c.first_from-at.ensures.found s.size c.self.invariant.counted.unsent lt)

pub returns-clause-first : goal.returns-clause-first
returns-clause-first c =
    let s = c.self.inside in
    let le : length s.entries.items ≤ c.first_from-at.result = omega (arith, c.len.ensures, s.entries.ok.0, c.if-at-len.false) in
    rw (← c.self.view_is) (none_found is_item_unsent s.size s.entries.items c.first_from-at.result le (c.first_from-at.ensures.none s.size c.self.invariant.counted.unsent))
