use Rattle.sctp_association.specs.MachineStands.{MachineStands}
use Rattle.sctp_association.proofs.MachineLemmas.{at_view}
use Rattle.sctp_association.proofs.OptionLemmas.{unheard}
use Rattle.sctp_association.proofs.machine.Machine.hear_heartbeat_ack.Goals as goal

pub returns : goal.returns
unfolding MachineStands
returns c = λ v stands. at_view _ _ _ (unheard v c.args.info.now stands.beats) stands
