use Rattle.sctp_model.specs.end.Clock.{at_moment}
use Rattle.sctp_association.specs.MachineStands.{MachineStands}
use Rattle.sctp_association.proofs.MachineLemmas.{joined, unjoined}
use Rattle.sctp_association.proofs.GivenUpLemmas.{gives_up_alone, unused_alone}
use Rattle.sctp_association.proofs.machine.Machine.gives_up_alone.Goals as goal

pub returns-in-Unjoined : goal.returns-in-Unjoined
unfolding MachineStands
returns-in-Unjoined c = λ v stands now. unused_alone (at_moment v now) _ _ (unjoined _ _ v c.in-Unjoined.is stands).sender

pub returns-in-Joined : goal.returns-in-Joined
unfolding MachineStands
returns-in-Joined c = λ v stands now. gives_up_alone _ (at_moment v now) (c.reached.ensures _ v.sender v.receiver (joined _ _ v c.in-Joined.is stands).traffic)
