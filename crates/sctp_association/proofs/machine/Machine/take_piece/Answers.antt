use Rattle.sctp_wire.specs.ChunkTree.{piece_meaning}
use Rattle.sctp_association.specs.MachineStands.{MachineStands}
use Rattle.sctp_association.proofs.MachineLemmas.{joined}
use Rattle.sctp_association.proofs.ReportLemmas.{on_err, waiting_same}
use Rattle.sctp_association.proofs.HearingLemmas.{never_open, piece_taken, untaken}
use Rattle.sctp_association.proofs.machine.Machine.take_piece.Goals as goal

pub returns-in_err-make_room-clause-refused : goal.returns-in_err-make_room-clause-refused
unfolding MachineStands
returns-in_err-make_room-clause-refused c = λ v stands. on_err _ _ (waiting_same _ v _ stands c.make_room.ensures.same)

pub returns-in-Unjoined-clause-step : goal.returns-in-Unjoined-clause-step
unfolding MachineStands
returns-in-Unjoined-clause-step c = λ v t g stands phase. absurd (never_open c.args.self.now _ v t g c.in-Unjoined.is stands phase)

pub returns-in-Joined-clause-step : goal.returns-in-Joined-clause-step
unfolding MachineStands
returns-in-Joined-clause-step c = λ v t g stands phase.
    let there = waiting_same _ v _ stands c.make_room.ensures.same in
    piece_taken _ _ _ v (piece_meaning c.args.piece.now) c.on_data.result c.in-Joined.is there c.resets_stay.ensures (c.on_data.ensures.step _ v.sender v.receiver (joined _ _ v c.in-Joined.is there).traffic)

pub returns-in-Joined-clause-refused : goal.returns-in-Joined-clause-refused
unfolding MachineStands
returns-in-Joined-clause-refused c = λ v stands.
    let there = waiting_same _ v _ stands c.make_room.ensures.same in
    untaken _ _ _ v c.on_data.result c.in-Joined.is there (c.on_data.ensures.refused _ v.sender v.receiver (joined _ _ v c.in-Joined.is there).traffic)
