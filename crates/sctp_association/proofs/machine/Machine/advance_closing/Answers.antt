use Rattle.std.proofs.Common.{◌∙◌, true, sym}
use Rattle.sctp_model.specs.sender.Readers.{drained}
use Rattle.sctp_association.specs.MachineStands.{MachineStands}
use Rattle.sctp_association.proofs.MachineLemmas.{at_view}
use Rattle.sctp_association.proofs.RestLemmas.{rested_shut, rested_established}
use Rattle.sctp_association.proofs.machine.Machine.advance_closing.Goals as goal

pub returns-in_default : goal.returns-in_default
unfolding MachineStands
returns-in_default c = λ v stands. at_view _ _ _ (rested_shut v.phase (drained v.sender) v (c.in_default.ensures v stands (λ g. true))) stands

pub returns-then-is_established : goal.returns-then-is_established
unfolding MachineStands
returns-then-is_established c = λ v stands.
    at_view _ _ _ (rested_established v _ _ (c.in-Some.ensures v stands) (sym c.is_established.ensures.established ∙ c.if-is_established.true)) stands

pub returns : goal.returns
returns c = λ v stands. c.advance_closing_in.ensures v _ stands (c.in-Some.ensures v stands)
