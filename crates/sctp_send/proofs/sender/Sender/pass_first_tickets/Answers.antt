use Rattle.std.proofs.Common.{subst, sym}
use Rattle.sctp_send.specs.SenderKept.{Kept}
use Rattle.sctp_send.specs.SenderStands.{StandsFor, Keeps}
use Rattle.sctp_send.proofs.DueKept.{keeps_passed}
use Rattle.sctp_send.proofs.sender.Sender.pass_first_tickets.Goals as goal

pub returns : goal.returns
unfolding StandsFor
returns g c = λ v stands.
    let s = c.self.inside in
    let keeps = subst (λ (k : Kept). Keeps g.F.Framing.format k v) (sym c.self.view_is) stands in
    let page = c.in-Some.ensures in
    rw (c.pass_page.ensures.passed, c.pass_page.ensures.moments, c.pass_page.ensures.asleep)
    (keeps_passed g.F.Framing.format _ v 64 c.in-Some.last keeps page.0 page.1 (λ t le. c.is_past.ensures.queue s.told.fragment t c.if-not-is_past.false le)
    (λ t le. c.is_past.ensures.tracks s.told.fragment t c.if-not-is_past.false le)
    (λ t le. c.is_past.ensures.items s.told.fragment t c.if-not-is_past.false le))
