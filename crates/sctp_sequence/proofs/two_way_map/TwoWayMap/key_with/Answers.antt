use Rattle.std.proofs.Common.{ℕ, ◌∙◌, Some, map, ap, arith}
use Rattle.sctp_sequence.specs.TwoWays.{pairs_from, turned}
use Rattle.sctp_sequence.proofs.PairLemmas.{pair_with}
use Rattle.sctp_sequence.proofs.TwoWayLemmas.{value_first, key_there}
use Rattle.sctp_sequence.proofs.two_way_map.TwoWayMap.key_with.Goals as goal

pub returns-in-None : goal.returns-in-None
returns-in-None c = λ values h j is.
    let none = c.in-None.ensures (map turned (pairs_from 0 values)) (h.by_value c.requires) (pair_with c.args.value j) (value_first j c.args.value values is) in
    omega (arith, none)

pub returns-then-pair-value : goal.returns-then-pair-value
returns-then-pair-value c = λ values h.
    let found = c.in-Some.ensures (map turned (pairs_from 0 values)) (h.by_value c.requires) in
    key_there values c.in-Some.pair found.there ∙ ap (λ (n : ℕ). Some n) c.if-pair-value.true

pub returns-else-pair-value : goal.returns-else-pair-value
returns-else-pair-value c = λ values h j is.
    let found = c.in-Some.ensures (map turned (pairs_from 0 values)) (h.by_value c.requires) in
    let least = found.first (pair_with c.args.value j) (value_first j c.args.value values is) (omega arith) in
    let above = found.above in
    c.if-pair-value.false (omega (arith, least, above))
