use Rattle.std.proofs.Common.{subst, sym, arith}
use Rattle.sctp_send.specs.SenderKept.{Kept}
use Rattle.sctp_send.specs.SenderStands.{StandsFor, Keeps}
use Rattle.sctp_send.proofs.OverKept.{keeps_over}
use Rattle.sctp_send.proofs.sender.Sender.end_first_tickets.Goals as goal

pub returns : goal.returns
unfolding StandsFor
returns g c = λ v stands.
    let s = c.self.inside in
    let keeps = subst (λ (k : Kept). Keeps g.F.Framing.format k v) (sym c.self.view_is) stands in
    let given = rw c.end_block.ensures.items at c.end_block.ensures.given in
    rw (c.end_block.ensures.items, c.end_block.ensures.abandoned)
    (keeps_over g.F.Framing.format _ v c.end_block.new.self.ended c.in-Some.last keeps given (omega (arith, c.end_block.ensures.within, c.in-Some.ensures))
    (λ t le. c.is_past.ensures.queue s.told.fragment t c.if-not-is_past.false le)
    (λ t le. c.is_past.ensures.tracks s.told.fragment t c.if-not-is_past.false le)
    (λ t le. c.is_past.ensures.items s.told.fragment t c.if-not-is_past.false le))
