use Rattle.std.proofs.Common.{◌∙◌, ℕ, ap}
use Rattle.std.specs.Prelude.{not, ◌||◌, ◌==◌}
use Rattle.sctp_model.specs.sender.Readers.{point}
use Rattle.sctp_model.specs.end.EndView.{EndView}
use Rattle.sctp_association.specs.MachineStands.{MachineStands}
use Rattle.sctp_association.proofs.MachineLemmas.{with_due}
use Rattle.sctp_association.proofs.MomentLemmas.{skipped_due}
use Rattle.sctp_association.proofs.machine.Machine.when_abandoned.Goals as goal

pub returns : goal.returns
unfolding MachineStands
returns c = λ v s stands before.
    let there : EndView = record v { sender = s } in
    let moved = ap (λ (n : ℕ). not (n == c.args.before)) (c.point.ensures there stands) ∙ ap (λ (n : ℕ). not (point s == n)) before in
    let due = skipped_due _ v.due _ _ (c.skip.ensures v.due stands.due) moved in
    let skips : EndView = record there { due = record v.due { forward = v.due.forward || not (point s == point v.sender) } } in
    c.advance_closing.ensures _ (c.settle.ensures skips (with_due _ there _ _ stands due))
