use Rattle.sctp_outcomes.proofs.logs.Built.{builds_begin_few}
use Rattle.sctp_association.specs.MachineStands.{MachineStands}
use Rattle.sctp_association.proofs.MachineLemmas.{joined}
use Rattle.sctp_association.proofs.SoundLemmas.{sound_unjoined, sound_joined, filling_unjoined}
use Rattle.sctp_association.proofs.machine.Machine.packets_begin_few.Goals as goal

pub returns-in-Unjoined : goal.returns-in-Unjoined
unfolding MachineStands
returns-in-Unjoined c = λ v stands. builds_begin_few v (sound_unjoined _ _ v c.in-Unjoined.is stands) (filling_unjoined _ _ v c.in-Unjoined.is stands)

pub returns-in-Joined : goal.returns-in-Joined
unfolding MachineStands
returns-in-Joined c = λ v stands.
    let reached = c.reached.ensures _ v.sender v.receiver (joined _ _ v c.in-Joined.is stands).traffic in
    builds_begin_few v (sound_joined _ _ v _ c.in-Joined.is stands reached) (λ t g filled. reached)
