use Rattle.std.proofs.Common.{◌∙◌}
use Rattle.sctp_sequence.proofs.TwoWayLemmas.{map_left}
use Rattle.sctp_sequence.proofs.two_way_map.TwoWayMap.leave.Goals as goal

pub returns : goal.returns
returns c = λ values lt is h.
    map_left c.args.key c.in-Some.value values c.args.self.now c.remove.new.self c.remove-2.new.self c.remove.result c.remove-2.result lt (is ∙ c.in-Some.is) h
    c.remove.ensures.gone c.remove.ensures.there c.remove-2.ensures.gone c.remove-2.ensures.there
