use Rattle.sctp_sequence.specs.TwoWays.{pairs_from}
use Rattle.sctp_sequence.proofs.TwoWayLemmas.{first_key}
use Rattle.sctp_sequence.proofs.two_way_map.TwoWayMap.first_from.Goals as goal

pub returns : goal.returns
returns c = λ values h. first_key c.args.key values c.first_from.result (c.first_from.ensures (pairs_from 0 values) (h.by_key c.requires))
