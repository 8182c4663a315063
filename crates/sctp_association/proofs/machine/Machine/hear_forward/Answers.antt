use Rattle.sctp_wire.specs.ChunkTree.{forward_meaning}
use Rattle.sctp_association.specs.MachineStands.{MachineStands}
use Rattle.sctp_association.proofs.MachineLemmas.{joined}
use Rattle.sctp_association.proofs.HearingLemmas.{never_open, forward_taken, untaken}
use Rattle.sctp_association.proofs.machine.Machine.hear_forward.Goals as goal

pub returns-in-Unjoined-clause-step : goal.returns-in-Unjoined-clause-step
unfolding MachineStands
returns-in-Unjoined-clause-step c = λ v t g stands phase. absurd (never_open c.args.self.now _ v t g c.in-Unjoined.is stands phase)

pub returns-in-Joined-clause-step : goal.returns-in-Joined-clause-step
unfolding MachineStands
returns-in-Joined-clause-step c = λ v t g stands phase.
    forward_taken _ _ _ v (forward_meaning c.args.forward.now) c.on_forward.result c.in-Joined.is stands c.resets_stay.ensures (c.on_forward.ensures.step _ v.sender v.receiver (joined _ _ v c.in-Joined.is stands).traffic)

pub returns-in-Joined-clause-refused : goal.returns-in-Joined-clause-refused
unfolding MachineStands
returns-in-Joined-clause-refused c = λ v stands.
    untaken _ _ _ v c.on_forward.result c.in-Joined.is stands (c.on_forward.ensures.refused _ v.sender v.receiver (joined _ _ v c.in-Joined.is stands).traffic)
