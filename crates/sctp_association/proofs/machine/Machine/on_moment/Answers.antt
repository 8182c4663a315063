use Rattle.std.proofs.Common.{◌∙◌, Bool, ap, sym}
use Rattle.std.specs.Prelude.{if◌then◌else◌}
use Rattle.sctp_model.specs.end.Clock.{at_moment}
use Rattle.sctp_model.specs.end.Moments.{passed}
use Rattle.sctp_association.specs.MachineStands.{MachineStands}
use Rattle.sctp_association.proofs.MachineLemmas.{at_view}
use Rattle.sctp_association.proofs.machine.Machine.on_moment.Goals as goal

pub returns-then-not-has_association : goal.returns-then-not-has_association
unfolding MachineStands
returns-then-not-has_association c = λ v stands.
    let now = c.advance_clock.ensures v stands in
    at_view _ _ _ (ap (λ (b : Bool). if b then passed (at_moment v c.args.now) else at_moment v c.args.now) (sym (c.has_association.ensures _ now) ∙ c.if-not-has_association.true)) now

pub returns : goal.returns
unfolding MachineStands
returns c = λ v stands.
    let now = c.advance_clock.ensures v stands in
    at_view _ _ _ (ap (λ (b : Bool). if b then passed (at_moment v c.args.now) else at_moment v c.args.now) (sym (c.has_association.ensures _ now) ∙ c.if-not-has_association.false)) (c.pass.ensures _ now)
