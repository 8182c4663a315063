use Rattle.std.proofs.Common.{◌<◌, ◌≤◌, map, arith}
use Rattle.std.proofs.lemmas.Bool.Decides.{nat_tests}
use Rattle.sctp_sequence.specs.TwoWays.{pairs_from, turned}
use Rattle.sctp_sequence.proofs.PairLemmas.{pair_with}
use Rattle.sctp_sequence.proofs.TwoWayLemmas.{value_first, key_there}
use Rattle.sctp_sequence.proofs.two_way_map.TwoWayMap.are_above.Goals as goal

pub returns-in-Some-clause-above : goal.returns-in-Some-clause-above
returns-in-Some-clause-above c = λ values h on key other is.
    let found = c.in-Some.ensures (map turned (pairs_from 0 values)) (h.by_value c.requires) in
    let least = found.first (pair_with other key) (value_first key other values is) (omega arith) in
    let less : c.args.value < c.in-Some.pair.first = grind (arith, nat_tests) in
    omega (arith, least, less)

pub returns-in-Some-clause-below : goal.returns-in-Some-clause-below
returns-in-Some-clause-below c = λ values h off.
    let found = c.in-Some.ensures (map turned (pairs_from 0 values)) (h.by_value c.requires) in
    let le : c.in-Some.pair.first ≤ c.args.value = grind (arith, nat_tests) in
    (c.in-Some.pair.second, c.in-Some.pair.first, key_there values c.in-Some.pair found.there, le)

pub returns-in-None-clause-above : goal.returns-in-None-clause-above
returns-in-None-clause-above c = λ values h on key other is.
    let none = c.in-None.ensures (map turned (pairs_from 0 values)) (h.by_value c.requires) (pair_with other key) (value_first key other values is) in
    absurd (omega (arith, none))
