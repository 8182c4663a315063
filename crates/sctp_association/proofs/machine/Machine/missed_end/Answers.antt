use Rattle.std.proofs.Common.{◌∙◌, arith}
use Rattle.sctp_association.specs.MachineStands.{MachineStands}
use Rattle.sctp_association.proofs.MissedLemmas.{none_past, pace_at, pace_lacks}
use Rattle.sctp_association.proofs.machine.Machine.missed_end.Goals as goal

pub returns-in-None : goal.returns-in-None
unfolding MachineStands
returns-in-None c = λ v p stands pace i above past. absurd (pace_lacks _ v.sender.cum _ v.pace p c.in-None.is pace stands.pace)

pub returns-in-Some : goal.returns-in-Some
unfolding MachineStands
returns-in-Some c = λ v p stands pace i above past.
    c.missed_end.ensures _ v.sender.cum 0 p (pace_at _ v.sender.cum _ _ v.pace p c.in-Some.is pace stands.pace) (omega arith) i above ∙ none_past 0 c.missed_end.result i _ past
