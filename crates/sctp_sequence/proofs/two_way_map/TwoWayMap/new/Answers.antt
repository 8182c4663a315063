use Rattle.std.proofs.Common.{◌∙◌}
use Rattle.sctp_sequence.proofs.TwoWayLemmas.{map_fresh}
use Rattle.sctp_sequence.proofs.two_way_map.TwoWayMap.new.Goals as goal

pub returns-clause-map : goal.returns-clause-map
returns-clause-map c = λ n. map_fresh n c.reserve.new.self c.reserve-2.new.self c.is_some.result (c.reserve.ensures.items ∙ c.new-by_key.ensures) (c.reserve-2.ensures.items ∙ c.new-by_value.ensures)
