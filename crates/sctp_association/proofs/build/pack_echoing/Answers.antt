use Rattle.sctp_association.proofs.BuildLemmas.{echoes_packet}
use Rattle.sctp_association.proofs.build.pack_echoing.Goals as goal

pub returns : goal.returns
returns c = λ e t phase due empty.
    echoes_packet e t _ c.args.packing.now c.put_echoing.new.packing _ c.filled_none.result phase empty (c.in_ok-_room.ensures e t phase due empty.packet) c.filled_none.ensures
