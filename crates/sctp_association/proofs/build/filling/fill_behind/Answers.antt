use Rattle.sctp_association.proofs.build.filling.fill_behind.Goals as goal

pub returns-clause-filled : goal.returns-clause-filled
returns-clause-filled c = λ e stands pace clock packet.
    c.in_ok-fragments.ensures.filled e c.args.packing.now.marks c.start_fragments.new.starts stands pace clock packet c.start_fragments.ensures

pub returns-clause-paced : goal.returns-clause-paced
returns-clause-paced c = λ e stands pace clock packet. c.in_ok-fragments.ensures.paced e c.args.packing.now.marks stands pace clock packet
