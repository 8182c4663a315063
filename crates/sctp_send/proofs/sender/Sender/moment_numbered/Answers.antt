use Rattle.std.proofs.Common.{subst, sym}
use Rattle.sctp_send.specs.SenderKept.{Kept}
use Rattle.sctp_send.specs.SenderStands.{StandsFor, Keeps}
use Rattle.sctp_send.proofs.abandon.MomentKept.{open_moment, reliable_late}
use Rattle.sctp_send.proofs.sender.Sender.moment_numbered.Goals as goal

pub returns-then-not-self : goal.returns-then-not-self
unfolding StandsFor
returns-then-not-self g c = λ v stands on now.
    let s = c.self.inside in
    let keeps = subst (λ (k : Kept). Keeps g.F.Framing.format k v) (sym c.self.view_is) stands in
    reliable_late g.F.Framing.format _ v now c.args.ticket keeps on c.if-not-self.true

pub returns : goal.returns
unfolding StandsFor
returns g c = λ v stands on now.
    let s = c.self.inside in
    let keeps = subst (λ (k : Kept). Keeps g.F.Framing.format k v) (sym c.self.view_is) stands in
    open_moment g.F.Framing.format _ v now c.args.ticket c.until_open.result keeps on c.if-not-self.false (c.until_open.ensures s.told.fragment)
