use Rattle.std.proofs.Common.{◌∙◌, sym, arith, length, ◌<◌, ◌≤◌}
use Rattle.std.proofs.lemmas.Grind.{common_steps}
use Rattle.sctp_wire.specs.Skips.{skip_size}
use Rattle.sctp_wire.proofs.SkipLemmas.{skips_in-none, skips_in-some}
use Rattle.sctp_wire.proofs.skips.SkipIterIterator.next.Goals as goal

pub returns-then-self-size-clause-steps : goal.returns-then-self-size-clause-steps
returns-then-self-size-clause-steps c =
    let short : length c.self.inside.rest.now < skip_size c.self.inside.form = rw c.size-size.ensures at c.if-self-size.true in
    let none = sym c.self.view_is ∙ skips_in-none c.self.inside.form c.self.inside.rest.now short in (none, none)

pub returns-clause-steps : goal.returns-clause-steps
returns-clause-steps c =
    let long : skip_size c.self.inside.form ≤ length c.self.inside.rest.now = rw c.size-size.ensures at c.if-self-size.false in
    let some = sym c.self.view_is ∙ skips_in-some c.self.inside.form c.self.inside.rest.now long in
    grind (arith, common_steps)

pub returns-clause-goes : goal.returns-clause-goes
returns-clause-goes c =
    let long : skip_size c.self.inside.form ≤ length c.self.inside.rest.now = rw c.size-size.ensures at c.if-self-size.false in
    let some = sym c.self.view_is ∙ skips_in-some c.self.inside.form c.self.inside.rest.now long in
    grind (arith, common_steps)
