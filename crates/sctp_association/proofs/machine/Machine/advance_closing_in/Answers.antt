use Rattle.std.proofs.Common.{◌∙◌, sym}
use Rattle.sctp_association.specs.MachineStands.{MachineStands}
use Rattle.sctp_association.proofs.MachineLemmas.{at_view, with_due}
use Rattle.sctp_association.proofs.RestLemmas.{rested_undrained, rested_as, rests_else}
use Rattle.sctp_association.proofs.machine.Machine.advance_closing_in.Goals as goal

pub returns-then-not-is_drained : goal.returns-then-not-is_drained
unfolding MachineStands
returns-then-not-is_drained c = λ v t stands phase.
    at_view _ _ _ (rested_undrained v _ _ phase (sym c.if-not-is_drained.true ∙ c.is_drained.ensures v stands)) stands

pub returns-in-ShutdownPending : goal.returns-in-ShutdownPending
unfolding MachineStands
returns-in-ShutdownPending c = λ v t stands at.
    let phase = rw c.in-ShutdownPending.is at at in
    let now = c.turn.ensures v _ _ stands phase in
    at_view _ _ _ (rested_as v _ _ phase (sym c.if-not-is_drained.false ∙ c.is_drained.ensures v stands))
    (with_due _ _ _ _ now (c.owe_shutdown.ensures _ now.due))

pub returns-in-ShutdownReceived : goal.returns-in-ShutdownReceived
unfolding MachineStands
returns-in-ShutdownReceived c = λ v t stands at.
    let phase = rw c.in-ShutdownReceived.is at at in
    let now = c.turn-in-ShutdownReceived.ensures v _ _ stands phase in
    at_view _ _ _ (rested_as v _ _ phase (sym c.if-not-is_drained.false ∙ c.is_drained.ensures v stands))
    (with_due _ _ _ _ now (c.owe_shutdown_ack.ensures _ now.due))

pub returns-in_default : goal.returns-in_default
unfolding MachineStands
returns-in_default c = λ v t stands phase.
    at_view _ _ _ (rested_as v _ _ phase (sym c.if-not-is_drained.false ∙ c.is_drained.ensures v stands)
    ∙ rests_else _ c.args.stage v c.in_default.not-ShutdownPending c.in_default.not-ShutdownReceived) stands
