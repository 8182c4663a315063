use Rattle.sctp_association.specs.MachineStands.{MachineStands}
use Rattle.sctp_association.proofs.MachineLemmas.{joined}
use Rattle.sctp_association.proofs.SoundLemmas.{sound_unjoined, sound_joined}
use Rattle.sctp_association.proofs.machine.Machine.sound.Goals as goal

pub returns-in-Unjoined : goal.returns-in-Unjoined
unfolding MachineStands
returns-in-Unjoined c = λ v stands. sound_unjoined _ _ v c.in-Unjoined.is stands

pub returns-in-Joined : goal.returns-in-Joined
unfolding MachineStands
returns-in-Joined c = λ v stands.
    sound_joined _ _ v _ c.in-Joined.is stands (c.reached.ensures _ v.sender v.receiver (joined _ _ v c.in-Joined.is stands).traffic)
