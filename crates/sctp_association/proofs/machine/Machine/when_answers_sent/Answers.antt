use Rattle.std.proofs.Common.{◌∙◌, Bool, [], ap, refl}
use Rattle.sctp_model.specs.receiver.ReceiverView.{ReceiverView}
use Rattle.sctp_model.specs.receiver.ResetTaken.{with_answers}
use Rattle.sctp_association.specs.MachineStands.{MachineStands}
use Rattle.sctp_association.specs.Drafted.{answers_left}
use Rattle.sctp_association.proofs.MachineLemmas.{at_view, joined, unjoined, with_resets}
use Rattle.sctp_association.proofs.AskLemmas.{answers_fresh}
use Rattle.sctp_association.proofs.CumLemmas.{no_lower}
use Rattle.sctp_association.proofs.machine.Machine.when_answers_sent.Goals as goal

pub returns-then-are_due : goal.returns-then-are_due
unfolding MachineStands
returns-then-are_due c = λ v stands. at_view _ _ _ (ap (λ (b : Bool). record v { receiver = answers_left b v.receiver }) c.if-are_due.true) stands

pub returns-in-Unjoined : goal.returns-in-Unjoined
unfolding MachineStands
returns-in-Unjoined c = λ v stands.
    at_view _ _ _ (ap (λ (b : Bool). record v { receiver = answers_left b v.receiver }) c.if-are_due.false
    ∙ ap (λ (r : ReceiverView). record v { receiver = r }) (answers_fresh v.receiver _ _ (unjoined _ _ v c.in-Unjoined.is stands).receiver)) stands

pub returns-in-Joined : goal.returns-in-Joined
unfolding MachineStands
returns-in-Joined c = λ v stands.
    at_view _ _ _ (ap (λ (b : Bool). record v { receiver = answers_left b v.receiver }) c.if-are_due.false)
    (with_resets _ _ _ v v.sender (with_answers v.receiver []) c.in-Joined.is stands (c.answers_sent.ensures _ v.sender v.receiver (joined _ _ v c.in-Joined.is stands).traffic) (no_lower v.sender.cum) refl (λ off. refl))
