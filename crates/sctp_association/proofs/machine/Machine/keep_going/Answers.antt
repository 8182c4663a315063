use Rattle.std.proofs.Common.{◌∙◌, Bool, ap, sym}
use Rattle.sctp_model.specs.end.Arriving.{kept_going}
use Rattle.sctp_association.specs.MachineStands.{MachineStands}
use Rattle.sctp_association.proofs.MachineLemmas.{at_view}
use Rattle.sctp_association.proofs.machine.Machine.keep_going.Goals as goal

pub returns-then-keeps_going : goal.returns-then-keeps_going
unfolding MachineStands
returns-then-keeps_going c = λ v stands.
    at_view _ _ _ (ap (λ (b : Bool). kept_going b v) (sym (c.keeps_going.ensures v stands) ∙ c.if-keeps_going.true)) (c.renew.ensures v stands)

pub returns-else-keeps_going : goal.returns-else-keeps_going
unfolding MachineStands
returns-else-keeps_going c = λ v stands.
    at_view _ _ _ (ap (λ (b : Bool). kept_going b v) (sym (c.keeps_going.ensures v stands) ∙ c.if-keeps_going.false)) stands
