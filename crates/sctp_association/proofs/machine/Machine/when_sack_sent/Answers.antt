use Rattle.std.proofs.Common.{◌∙◌, Bool, ap, refl, true}
use Rattle.sctp_model.specs.receiver.ReceiverView.{room_left}
use Rattle.sctp_association.specs.MachineStands.{MachineStands}
use Rattle.sctp_association.specs.Drafted.{delayed_left, offered_left, receiver_left}
use Rattle.sctp_association.proofs.MachineLemmas.{at_view, with_delayed, with_offered}
use Rattle.sctp_association.proofs.machine.Machine.when_sack_sent.Goals as goal

pub returns-then-not-was_due : goal.returns-then-not-was_due
unfolding MachineStands
returns-then-not-was_due c = λ v stands.
    at_view _ _ _ (ap (λ (b : Bool). record v { delayed = delayed_left b c.args.is_due v.delayed; offered = offered_left b c.args.is_due v.receiver v.offered; receiver = receiver_left b c.args.is_due v.receiver }) c.if-not-was_due.true) stands

pub returns-then-is_due : goal.returns-then-is_due
unfolding MachineStands
returns-then-is_due c = λ v stands.
    at_view _ _ _ (ap (λ (b : Bool). record v { delayed = delayed_left b c.args.is_due v.delayed; offered = offered_left b c.args.is_due v.receiver v.offered; receiver = receiver_left b c.args.is_due v.receiver }) c.if-not-was_due.false
    ∙ ap (λ (b : Bool). record v { delayed = delayed_left true b v.delayed; offered = offered_left true b v.receiver v.offered; receiver = receiver_left true b v.receiver }) c.if-is_due.true) stands

pub returns : goal.returns
unfolding MachineStands
returns c = λ v stands.
    at_view _ _ _ (ap (λ (b : Bool). record v { delayed = delayed_left b c.args.is_due v.delayed; offered = offered_left b c.args.is_due v.receiver v.offered; receiver = receiver_left b c.args.is_due v.receiver }) c.if-not-was_due.false
    ∙ ap (λ (b : Bool). record v { delayed = delayed_left true b v.delayed; offered = offered_left true b v.receiver v.offered; receiver = receiver_left true b v.receiver }) c.if-is_due.false)
    (c.sack_sent.ensures _ (with_offered _ _ (room_left v.receiver) (with_delayed _ v _ _ stands refl)))
