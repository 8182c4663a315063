use Rattle.std.proofs.Common.{◌∙◌, refl, sym}
use Rattle.sctp_association.specs.MachineStands.{MachineStands}
use Rattle.sctp_association.proofs.MachineLemmas.{at_view, with_due, with_delayed}
use Rattle.sctp_association.proofs.DelayLemmas.{waited_as}
use Rattle.sctp_association.proofs.machine.Machine.wait_over.Goals as goal

pub returns-then-not-is_over_at : goal.returns-then-not-is_over_at
unfolding MachineStands
returns-then-not-is_over_at c = λ v stands. at_view _ _ _ (waited_as v _ _ _ stands.clock stands.delayed (sym c.is_over_at.ensures ∙ c.if-not-is_over_at.true)) stands

pub returns : goal.returns
unfolding MachineStands
returns c = λ v stands.
    at_view _ _ _ (waited_as v _ _ _ stands.clock stands.delayed (sym c.is_over_at.ensures ∙ c.if-not-is_over_at.false))
    (with_delayed _ _ _ _ (with_due _ v _ _ stands (c.owe_sack.ensures v.due stands.due)) refl)
