use Rattle.std.proofs.Common.{◌≡◌, true, refl, ◌∙◌}
use Rattle.sctp_pair.specs.Sides.{SideStands}
use Rattle.sctp_pair.specs.PairStands.{PairStands}
use Rattle.sctp_pair.proofs.pair.Pair.may_open.Goals as goal

pub returns-then-self : goal.returns-then-self
unfolding PairStands SideStands
returns-then-self c = λ w stands.
    let on : w.openable ≡ true = stands.openable ∙ c.if-self.true in
    rw on (c.are_alike.ensures ∙ rw (c.config.ensures w.a stands.a.end) (rw (c.config-then-self.ensures w.b stands.b.end) refl))
