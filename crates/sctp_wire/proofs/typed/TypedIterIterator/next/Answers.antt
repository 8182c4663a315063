use Rattle.std.proofs.Common.{◌≡◌, ◌∷◌, ◌∙◌, sym, arith}
use Rattle.std.proofs.lemmas.Grind.{common_steps}
use Rattle.sctp_model.specs.wire.Typed.{typed_in}
use Rattle.sctp_wire.specs.TypedTree.{typed_meaning}
use Rattle.sctp_wire.proofs.AsWrittenLemmas.{a_list, list_starts, items_of-nil}
use Rattle.sctp_wire.proofs.typed.TypedIterIterator.next.Goals as goal

pub returns-then-is_empty-clause-steps : goal.returns-then-is_empty-clause-steps
returns-then-is_empty-clause-steps c =
    let nothing = items_of-nil c.self.inside.rest.now (grind (arith, common_steps)) in
    (sym c.self.view_is ∙ nothing, sym c.self.view_is ∙ nothing)

pub split_first-requires : goal.split_first-requires
split_first-requires c = list_starts c.self.inside.rest.now (grind (arith, common_steps)) c.self.invariant

pub invariant_of-self : goal.invariant_of-self
invariant_of-self c =
    let begins = list_starts c.self.inside.rest.now (grind (arith, common_steps)) c.self.invariant in
    rw c.split_first.ensures.rest (a_list c.self.inside.rest.now begins c.self.invariant).others

pub returns-clause-steps : goal.returns-clause-steps
returns-clause-steps c =
    let begins = list_starts c.self.inside.rest.now (grind (arith, common_steps)) c.self.invariant in
    sym c.self.view_is ∙ rw (c.split_first.ensures.item, c.split_first.ensures.rest) (a_list c.self.inside.rest.now begins c.self.invariant).items

pub returns-clause-goes : goal.returns-clause-goes
returns-clause-goes c =
    let begins = list_starts c.self.inside.rest.now (grind (arith, common_steps)) c.self.invariant in
    let items : c.args.self.now ≡ typed_meaning c.split_first.result.0 ∷ typed_in c.split_first.result.1.now =
    sym c.self.view_is ∙ rw (c.split_first.ensures.item, c.split_first.ensures.rest) (a_list c.self.inside.rest.now begins c.self.invariant).items in
    grind (arith, common_steps)
