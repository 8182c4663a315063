use Rattle.std.proofs.Common.{◌≡◌, ◌++◌, List, length, sym, ap, ◌∙◌, arith}
use Rattle.std.proofs.lemmas.Grind.{common_steps}
use Rattle.std.proofs.lemmas.List.Edits.{insert-append_right}
use Rattle.sctp_sequence.specs.Blocks.{joined}
use Rattle.sctp_sequence.proofs.sequence.Sequence.insert_reserved.Goals as goal

pub returns-then-not-is_empty : goal.returns-then-not-is_empty
returns-then-not-is_empty g c =
    let s = c.self.inside in
    let n = c.len-before.result in
    let long : length s.first.items ≡ n = omega (arith, s.first.ok, c.len-before.ensures) in
    rw (← c.self.view_is) (ap (λ (l : List g.row.T.Denot). s.first.items ++ l) c.insert_later.ensures.items ∙ sym (insert-append_right s.first.items (joined s.rest.items) n c.args.at c.args.item long c.if-before-at.true))

pub invariant_of-self-then-before-lt-BLOCK : goal.invariant_of-self-then-before-lt-BLOCK
invariant_of-self-then-before-lt-BLOCK g c = grind (arith, common_steps)

pub insert_halving_first-requires-clause-at : goal.insert_halving_first-requires-clause-at
insert_halving_first-requires-clause-at g c = grind (arith, common_steps)

pub overflow_add-self : goal.overflow_add-self
overflow_add-self g c = grind (arith, common_steps)

pub invariant_of-self : goal.invariant_of-self
invariant_of-self g c = grind (arith, common_steps)

pub invariant_of-self-2 : goal.invariant_of-self-2
invariant_of-self-2 g c = grind (arith, common_steps)

pub insert_later-requires-clause-at : goal.insert_later-requires-clause-at
insert_later-requires-clause-at g c = grind (arith, common_steps)

pub returns-then-before-lt-BLOCK : goal.returns-then-before-lt-BLOCK
returns-then-before-lt-BLOCK g c = grind (arith, common_steps)

pub insert_later-requires-clause-small : goal.insert_later-requires-clause-small
insert_later-requires-clause-small g c = grind (arith, common_steps)

pub invariant_of-self-then-at-before : goal.invariant_of-self-then-at-before
invariant_of-self-then-at-before g c = grind (arith, common_steps)

pub returns : goal.returns
returns g c = grind (arith, common_steps)

pub insert-requires : goal.insert-requires
insert-requires g c = grind (arith, common_steps)

pub returns-then-at-before : goal.returns-then-at-before
returns-then-at-before g c = grind (arith, common_steps)
