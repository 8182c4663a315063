use Rattle.std.proofs.lemmas.Bool.{false≢true}
use Rattle.sctp_association.specs.MachineStands.{MachineStands}
use Rattle.sctp_association.specs.StageMeans.{tags_meaning, stage_meaning}
use Rattle.sctp_association.proofs.machine.Machine.is_plain.Goals as goal

pub returns-then-not-is_plain : goal.returns-then-not-is_plain
returns-then-not-is_plain c = λ v stands is. absurd (false≢true is)

pub returns-else-not-is_plain : goal.returns-else-not-is_plain
unfolding MachineStands
returns-else-not-is_plain c = λ v stands is.
    (tags_meaning c.in-Some.field-0.tags, stage_meaning c.in-Some.field-0.stage, c.in-Some.ensures v stands, c.is_plain.ensures v.due stands.due c.if-not-is_plain.false, c.is_calm.ensures v stands is)
