use Rattle.std.proofs.Common.{◌∙◌, ℕ, Bool, ap, sym}
use Rattle.std.specs.Prelude.{Some, if◌then◌else◌}
use Rattle.sctp_model.specs.numbers.Limits.{SACK_DELAY}
use Rattle.sctp_model.specs.end.Clock.{after_wait}
use Rattle.sctp_model.specs.end.Arriving.{acknowledges, delays}
use Rattle.sctp_association.specs.StageMeans.{stage_meaning}
use Rattle.sctp_association.specs.MachineStands.{MachineStands}
use Rattle.sctp_association.proofs.MachineLemmas.{at_view, with_due, with_delayed}
use Rattle.sctp_association.proofs.machine.Machine.owe_sack.Goals as goal

pub returns-then-is_at_once : goal.returns-then-is_at_once
unfolding MachineStands
returns-then-is_at_once c = λ v n once stands.
    let g = stage_meaning c.args.stage in
    at_view _ _ _ (ap (λ (b : Bool). if b then acknowledges g v else delays v) (sym (c.is_at_once.ensures v n once stands) ∙ c.if-is_at_once.true))
    (with_due _ v _ _ stands (c.acknowledge.ensures v.due stands.due))

pub returns : goal.returns
unfolding MachineStands
returns c = λ v n once stands.
    let g = stage_meaning c.args.stage in
    at_view _ _ _ (ap (λ (b : Bool). if b then acknowledges g v else delays v) (sym (c.is_at_once.ensures v n once stands) ∙ c.if-is_at_once.false))
    (with_delayed _ v _ _ stands (ap (λ (m : ℕ). Some m) c.saturating_add.ensures ∙ ap (λ (m : ℕ). Some (after_wait m SACK_DELAY)) stands.clock))
