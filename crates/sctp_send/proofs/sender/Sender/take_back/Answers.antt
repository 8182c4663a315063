use Rattle.std.proofs.Common.{subst, sym, arith}
use Rattle.sctp_send.specs.SenderKept.{Kept}
use Rattle.sctp_send.specs.SenderStands.{StandsFor, Keeps}
use Rattle.sctp_send.proofs.abandon.WithdrawLemmas.{keeps_withdrawn}
use Rattle.sctp_send.proofs.OverKept.{open_waiting}
use Rattle.sctp_send.proofs.sender.Sender.take_back.Goals as goal

pub returns : goal.returns
unfolding StandsFor
returns g c = λ v stands waiting.
    let s = c.self.inside in
    let keeps = subst (λ (k : Kept). Keeps g.F.Framing.format k v) (sym c.self.view_is) stands in
    let behind = open_waiting g.F.Framing.format _ v c.args.ticket keeps waiting in
    rw (c.withdraw.ensures.items s.told.fragment, c.set.ensures.items (omega (arith, behind)), c.set.ensures.ended, c.set.ensures.abandoned) (keeps_withdrawn g.F.Framing.format _ v c.args.ticket keeps waiting)
