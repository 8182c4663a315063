use Rattle.sctp_association.proofs.BuildLemmas.{full_packet, whole_so, fills_packet}
use Rattle.sctp_association.proofs.build.pack_open.Goals as goal

pub returns-then-not-branch-clause-packed : goal.returns-then-not-branch-clause-packed
returns-then-not-branch-clause-packed c = λ e t g phase part pace clock empty.
    let full = full_packet e t g c.args.packing.now c.put_open.new.packing _ c.filled_none.result phase part.unasked empty c.if-not-branch.true (c.in_ok-put_open.ensures e part empty.packet) c.filled_none.ensures in
    whole_so e c.put_open.new.packing c.filled_none.result _ _ full part.traffic_stands pace

pub returns-clause-packed : goal.returns-clause-packed
returns-clause-packed c = λ e t g phase part pace clock empty.
    let puts = c.in_ok-put_open.ensures e part empty.packet in
    fills_packet c.fill_behind.result e t g c.args.packing.now c.put_open.new.packing c.fill_behind.new.packing _ c.fill_behind.new.traffic c.fill_behind.new.pace phase part.unasked empty c.if-not-branch.false puts
    (c.fill_behind.ensures.filled e part.traffic_stands pace clock puts.packet) (c.fill_behind.ensures.paced e part.traffic_stands pace clock puts.packet)
