use Rattle.std.proofs.Common.{◌∙◌, sym}
use Rattle.std.proofs.lemmas.Bool.{false≢true}
use Rattle.sctp_association.specs.MachineStands.{MachineStands}
use Rattle.sctp_association.proofs.MachineLemmas.{joined}
use Rattle.sctp_association.proofs.HearingLemmas.{untaken}
use Rattle.sctp_association.proofs.ResetLemmas.{unreset, begun_stands}
use Rattle.sctp_association.proofs.machine.Machine.begin_reset.Goals as goal

pub returns-in-Unjoined-clause-step : goal.returns-in-Unjoined-clause-step
unfolding MachineStands
returns-in-Unjoined-clause-step c = λ v stands on. absurd (false≢true (sym (unreset _ _ v c.in-Unjoined.is stands) ∙ on))

pub returns-in-Joined-clause-step : goal.returns-in-Joined-clause-step
unfolding MachineStands
returns-in-Joined-clause-step c = λ v stands on.
    begun_stands _ _ _ v c.args.stream c.reset.result c.in-Joined.is stands (c.reset.ensures.step _ v.sender v.receiver (joined _ _ v c.in-Joined.is stands).traffic)

pub returns-in-Joined-clause-refused : goal.returns-in-Joined-clause-refused
unfolding MachineStands
returns-in-Joined-clause-refused c = λ v stands.
    untaken _ _ _ v c.reset.result c.in-Joined.is stands (c.reset.ensures.refused _ v.sender v.receiver (joined _ _ v c.in-Joined.is stands).traffic)
