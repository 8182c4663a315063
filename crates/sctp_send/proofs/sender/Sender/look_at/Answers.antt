use Rattle.std.proofs.Common.{subst, sym}
use Rattle.sctp_send.specs.SenderKept.{Kept}
use Rattle.sctp_send.specs.SenderStands.{StandsFor, Keeps}
use Rattle.sctp_send.proofs.DueKept.{keeps_told}
use Rattle.sctp_send.proofs.sender.Sender.look_at.Goals as goal

pub returns : goal.returns
unfolding StandsFor
returns g c = λ v stands.
    let s = c.self.inside in
    let keeps = subst (λ (k : Kept). Keeps g.F.Framing.format k v) (sym c.self.view_is) stands in
    rw (c.tell.ensures.passed, c.tell.ensures.asleep)
    (keeps_told g.F.Framing.format _ v c.args.ticket c.moment-until.result c.tell.new.self.moments keeps (λ now. c.moment-until.ensures v stands now) c.tell.ensures.long c.tell.ensures.here c.tell.ensures.others)
