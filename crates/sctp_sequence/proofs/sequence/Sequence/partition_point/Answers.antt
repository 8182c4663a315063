use Rattle.std.proofs.Common.{◌≡◌, ◌+◌, ◌-◌, ◌/◌, ◌<◌, length, take, sym, length-append, of_calls, ◌∙◌, arith}
use Rattle.sctp_sequence.specs.Blocks.{joined}
use Rattle.sctp_sequence.proofs.JoinedLemmas.{count_within}
use Rattle.sctp_sequence.proofs.PointLemmas.{next_answer, it_passes, it_fails, parted_front}
use Rattle.sctp_sequence.proofs.SearchLemmas.{has_item, within_all, first_point, later_parted, later_point}
use Rattle.sctp_sequence.proofs.sequence.Sequence.partition_point.Goals as goal

pub loop-low-preserved-then-pred : goal.loop-low-preserved-then-pred
loop-low-preserved-then-pred g c =
    let s = c.self.inside in
    let bs = s.rest.items in
    let b = c.index.result.now in
    let low = c.loop-low.low in
    let high = c.loop-low.high in
    let middle = low + (high - low) / 2 in
    let inv = c.loop-low.invariant in
    let top = inv.1 in
    let less : middle < length bs = omega (arith, top, c.loop-low-test.true) in (
      omega (arith, c.loop-low-test.true),
      top,
      search of_calls,
      λ p computes.
          let i = inv.3 p computes in
          let n = next_answer g.P.FnMut _ _ _ _ _ c.pred.ensures i.0 in
          (n.1, it_passes p bs low high middle b c.index-in-loop-low.result.now less c.index.ensures (has_item bs middle b c.self.invariant.rest less c.index.ensures) c.index-in-loop-low.ensures (sym n.0 ∙ c.if-pred.true) i.1),
    )

pub loop-low-preserved : goal.loop-low-preserved
loop-low-preserved g c =
    let s = c.self.inside in
    let bs = s.rest.items in
    let b = c.index.result.now in
    let low = c.loop-low.low in
    let high = c.loop-low.high in
    let middle = low + (high - low) / 2 in
    let inv = c.loop-low.invariant in
    let top = inv.1 in
    let less : middle < length bs = omega (arith, top, c.loop-low-test.true) in (
      omega arith,
      omega (arith, less),
      search of_calls,
      λ p computes.
          let i = inv.3 p computes in
          let n = next_answer g.P.FnMut _ _ _ _ _ c.pred.ensures i.0 in
          (n.1, it_fails p bs low high middle b c.index-in-loop-low.result.now less c.index.ensures (has_item bs middle b c.self.invariant.rest less c.index.ensures) c.index-in-loop-low.ensures (sym n.0 ∙ c.if-pred.false) i.1),
    )

pub returns-then-low-eq0-clause-partitioned : goal.returns-then-low-eq0-clause-partitioned
returns-then-low-eq0-clause-partitioned g c =
    let s = c.self.inside in
    let bs = s.rest.items in
    let f = s.first in
    rw (← c.self.view_is) (λ p computes parted.
    let i = c.loop-low.invariant.3 p computes in
    first_point p f bs c.partition_point.result c.loop-low.low c.loop-low.high c.self.invariant.rest (omega (arith, f.ok, c.partition_point.ensures.bound)) c.if-low-eq0.true c.loop-low-test.false parted i.1
    (c.partition_point.ensures.partitioned p i.0 (parted_front p f.items (joined bs) parted)))

pub overflow_add-before : goal.overflow_add-before
overflow_add-before g c =
    let s = c.self.inside in
    let k = c.loop-low.low - 1 in
    let top = c.loop-low.invariant.1 in
    let start : c.index-2.result.now ≡ length (joined (take k s.rest.items)) = c.index-2.ensures ∙ c.self.invariant.starts k _ (omega (arith, s.rest.ok, top, c.loop-low.invariant.0, c.if-low-eq0.false)) in
    let all = length-append s.first.items (joined s.rest.items) in
    let count = rw (← c.self.view_is) at c.len-count.ensures in
    omega (arith, all, count_within s.rest.items k, count, c.len-count.type_inv, s.first.ok, c.len.ensures, start)

pub overflow_add-result : goal.overflow_add-result
overflow_add-result g c =
    let s = c.self.inside in
    let bs = s.rest.items in
    let k = c.loop-low.low - 1 in
    let top = c.loop-low.invariant.1 in
    let less : k < length bs = omega (arith, top, c.loop-low.invariant.0, c.if-low-eq0.false) in
    let start : c.index-2.result.now ≡ length (joined (take k bs)) = c.index-2.ensures ∙ c.self.invariant.starts k _ (omega (arith, s.rest.ok, less)) in
    let b = c.index-3.result.now in
    let all = within_all s.first bs k b less c.index-3.ensures in
    let count = rw (← c.self.view_is) at c.len-count.ensures in
    omega (arith, all, count, c.len-count.type_inv, s.first.ok, b.ok, c.len.ensures, start, c.partition_point-2.ensures.bound)

pub returns-clause-bound : goal.returns-clause-bound
returns-clause-bound g c =
    let s = c.self.inside in
    let bs = s.rest.items in
    let k = c.loop-low.low - 1 in
    let top = c.loop-low.invariant.1 in
    let less : k < length bs = omega (arith, top, c.loop-low.invariant.0, c.if-low-eq0.false) in
    let start : c.index-2.result.now ≡ length (joined (take k bs)) = c.index-2.ensures ∙ c.self.invariant.starts k _ (omega (arith, s.rest.ok, less)) in
    let b = c.index-3.result.now in
    let all = within_all s.first bs k b less c.index-3.ensures in
    rw (← c.self.view_is) (omega (arith, all, s.first.ok, b.ok, c.len.ensures, start, c.partition_point-2.ensures.bound))

pub returns-clause-partitioned : goal.returns-clause-partitioned
returns-clause-partitioned g c =
    let s = c.self.inside in
    let bs = s.rest.items in
    let f = s.first in
    let low = c.loop-low.low in
    let k = low - 1 in
    let top = c.loop-low.invariant.1 in
    let some : 0 < low = omega (arith, c.if-low-eq0.false) in
    let less : k < length bs = omega (arith, top, c.loop-low.invariant.0, some) in
    let start : c.index-2.result.now ≡ length (joined (take k bs)) = c.index-2.ensures ∙ c.self.invariant.starts k _ (omega (arith, s.rest.ok, less)) in
    let b = c.index-3.result.now in
    let count : c.len.result + c.index-2.result.now ≡ length f.items + length (joined (take k bs)) = omega (arith, f.ok, c.len.ensures, start) in
    rw (← c.self.view_is) (λ p computes parted.
    let i = c.loop-low.invariant.3 p computes in
    later_point p f bs k b less c.index-3.ensures _ c.partition_point-2.result low c.loop-low.high c.self.invariant.rest count (omega (arith, b.ok, c.partition_point-2.ensures.bound)) (omega (arith, some)) (omega (arith, c.loop-low-test.false, c.loop-low.invariant.0)) (i.1.passes some b c.index-3.ensures) parted i.1
    (c.partition_point-2.ensures.partitioned p i.0 (later_parted p f bs k b less c.index-3.ensures parted)))
