use Rattle.std.proofs.Common.{◌≡◌, ◌∙◌, ℕ, IfOk, ap, subst}
use Rattle.std.specs.Prelude.{max}
use Rattle.sctp_association.specs.MachineStands.{MachineStands}
use Rattle.sctp_association.specs.BuildAnswers.{BuildAnswer}
use Rattle.sctp_association.proofs.machine.Machine.build.Goals as goal

pub returns-then-is_plain-clause-built : goal.returns-then-is_plain-clause-built
unfolding MachineStands
returns-then-is_plain-clause-built c = λ v stands.
    let n = c.max-moment.result in
    let clock : n ≡ max v.moment c.args.now = c.max-moment.ensures ∙ ap (λ (m : ℕ). max m c.args.now) stands.clock in
    let plain = c.is_plain.ensures v stands c.if-is_plain.true in
    subst (λ (m : ℕ). IfOk c.build_plain.result (λ built. BuildAnswer (record v { moment = m }) built c.build_plain.new.self)) clock
    (c.build_plain.ensures.built v plain.0 plain.1 stands plain.2 plain.3 plain.4)

pub returns-clause-built : goal.returns-clause-built
unfolding MachineStands
returns-clause-built c = λ v stands.
    let n = c.max-moment.result in
    let clock : n ≡ max v.moment c.args.now = c.max-moment.ensures ∙ ap (λ (m : ℕ). max m c.args.now) stands.clock in
    rw c.apart.ensures
    (subst (λ (m : ℕ). IfOk c.build_any.result (λ built. BuildAnswer (record v { moment = m }) built c.build_any.new.self)) clock (c.build_any.ensures.built v stands))
