use Rattle.std.proofs.Common.{subst, sym}
use Rattle.sctp_send.specs.SenderKept.{Kept}
use Rattle.sctp_send.specs.SenderStands.{StandsFor, Keeps}
use Rattle.sctp_send.proofs.resetting.ResetKept.{keeps_resets}
use Rattle.sctp_send.proofs.sender.Sender.renumber.Goals as goal

pub returns : goal.returns
unfolding StandsFor
returns g c = λ v q stands waits.
    let s = c.self.inside in
    let f = g.F.Framing.format in
    let keeps = subst (λ (k : Kept). Keeps f k v) (sym c.self.view_is) stands in
    keeps_resets f _ v s.told.forward c.renumber.new.self _ keeps (c.renumber.ensures v.streams v.resets q keeps.resets waits) keeps.forward
