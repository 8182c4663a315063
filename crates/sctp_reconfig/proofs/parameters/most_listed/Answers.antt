use Rattle.std.proofs.Common.{◌≡◌, ◌∷◌, List, map, sym, subst, arith}
use Rattle.std.proofs.lemmas.Grind.{common_steps}
use Rattle.sctp_model.specs.wire.Typed.{Typed}
use Rattle.sctp_wire.specs.TypedTree.{typed_meaning}
use Rattle.sctp_reconfig.specs.Reading.{ParameterMeaning, parameter_read, ListsAtMost, ListAtMost}
use Rattle.sctp_reconfig.proofs.parameters.most_listed.Goals as goal

pub loop-item-preserved : goal.loop-item-preserved
loop-item-preserved c = λ n most rest.
    let x = typed_meaning c.in-Some.item in
    let larger = c.max-most.ensures in
    let is : c.loop-item.item-iterator ≡ x ∷ c.next.new.self = grind (arith, common_steps) in
    let listed = c.listed.ensures n (omega (arith, larger, most)) in
    let here = subst (λ (p : ParameterMeaning). ListsAtMost n p) c.read_parameter.ensures listed in
    c.loop-item.invariant n (omega (arith, larger, most)) (subst (λ (ts : List Typed). ListAtMost n (map parameter_read ts)) (sym is) (here, rest))
