use Rattle.std.proofs.Common.{◌≡◌, ◌∙◌, [], ◌∷◌, ap, sym, subst, arith}
use Rattle.std.proofs.lemmas.Grind.{common_steps}
use Rattle.sctp_model.specs.end.EndView.{EndView}
use Rattle.sctp_reconfig.specs.Meanings.{parameter_meaning}
use Rattle.sctp_association.specs.Reconfigured.{responded, responses_heard}
use Rattle.sctp_association.specs.MachineStands.{MachineStands}
use Rattle.sctp_association.proofs.machine.Machine.hear_responses.Goals as goal

pub loop-parameter-init : goal.loop-parameter-init
loop-parameter-init c = λ v stands. (v, stands, ap (responses_heard v) c.into_iter-parameter-iterator.ensures.into_iter_gives)

pub loop-parameter-preserved : goal.loop-parameter-preserved
loop-parameter-preserved c =
    let p = parameter_meaning c.in-Some.parameter in
    let left = c.next.new.self in
    let rest : c.loop-parameter.parameter-iterator ≡ p ∷ left = grind (arith, common_steps) in
    λ v stands.
    let m = c.loop-parameter.invariant v stands in
    (responded m.0 p, c.hear_parameter.ensures m.0 m.1, ap (responses_heard m.0) (sym rest) ∙ m.2)

pub returns : goal.returns
returns c = λ v stands.
    let none : c.loop-parameter.parameter-iterator ≡ [] = grind (arith, common_steps) in
    let m = c.loop-parameter.invariant v stands in
    subst (λ (x : EndView). MachineStands c.loop-parameter.self x) (sym (ap (responses_heard m.0) none) ∙ m.2) m.1
