use Rattle.sctp_sequence.proofs.TwoWayLemmas.{map_entered}
use Rattle.sctp_sequence.proofs.two_way_map.TwoWayMap.enter.Goals as goal

pub returns : goal.returns
returns c = λ values lt is h.
    rw c.in-Some.is (map_entered c.args.key c.in-Some.value values c.args.self.now c.add-is_complete.new.pairs c.add-self.new.pairs c.add-is_complete.result c.add-self.result lt is h
    c.add-is_complete.ensures.kept c.add-self.ensures.kept c.add-is_complete.ensures.pairs c.add-self.ensures.pairs)
