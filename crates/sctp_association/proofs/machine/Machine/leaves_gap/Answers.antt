use Rattle.std.proofs.Common.{◌∙◌, ap, sym}
use Rattle.std.proofs.lemmas.Bool.{false≢true}
use Rattle.sctp_model.specs.end.EndView.{Configuration}
use Rattle.sctp_association.specs.MachineStands.{MachineStands}
use Rattle.sctp_association.proofs.machine.Machine.leaves_gap.Goals as goal

pub returns-then-not-delay : goal.returns-then-not-delay
unfolding MachineStands
returns-then-not-delay c = λ v stands on.
    absurd (false≢true (sym c.if-not-delay.true ∙ (c.delay.ensures ∙ (ap (λ (k : Configuration). k.delay) stands.configuration ∙ on))))

pub returns : goal.returns
returns c = λ v stands on. c.has_gap.ensures v stands
