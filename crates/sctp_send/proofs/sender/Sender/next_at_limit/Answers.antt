use Rattle.std.proofs.Common.{subst, sym, refl}
use Rattle.sctp_send.specs.SenderKept.{Kept}
use Rattle.sctp_send.specs.SenderStands.{StandsFor, Keeps}
use Rattle.sctp_send.proofs.abandon.LimitLemmas.{none_next, some_next}
use Rattle.sctp_send.proofs.sender.Sender.next_at_limit.Goals as goal

pub returns-in-Some : goal.returns-in-Some
unfolding StandsFor
returns-in-Some g c = λ v stands.
    let s = c.self.inside in
    let keeps = subst (λ (k : Kept). Keeps g.F.Framing.format k v) (sym c.self.view_is) stands in
    sym (some_next g.F.Framing.format _ v s.told.fragment c.args.last.0 c.in-Some.ticket s.parts.outstanding.items keeps refl c.in-Some.ensures)

pub returns-in-None : goal.returns-in-None
unfolding StandsFor
returns-in-None g c = λ v stands.
    let s = c.self.inside in
    let keeps = subst (λ (k : Kept). Keeps g.F.Framing.format k v) (sym c.self.view_is) stands in
    sym (none_next g.F.Framing.format _ v s.told.fragment c.args.last.0 s.parts.outstanding.items keeps refl c.in-None.ensures)
