use Rattle.std.proofs.Common.{subst, sym}
use Rattle.sctp_model.specs.sender.Abandoning.{expired}
use Rattle.sctp_send.specs.SenderKept.{Kept}
use Rattle.sctp_send.specs.SenderStands.{StandsFor, Keeps}
use Rattle.sctp_send.proofs.sender.Sender.expire.Goals as goal

pub returns : goal.returns
unfolding StandsFor
returns g c = λ v stands.
    let keeps = subst (λ (k : Kept). Keeps g.F.Framing.format k (expired v c.args.now)) (sym c.self.view_is) (c.expire_all.ensures v stands) in
    rw c.look_again.ensures keeps
