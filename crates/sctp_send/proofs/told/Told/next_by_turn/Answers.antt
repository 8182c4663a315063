use Rattle.std.proofs.Common.{◌∙◌, refl, sym, subst, ap}
use Rattle.std.specs.Prelude.{None, Some, option_map}
use Rattle.sctp_model.specs.messages.Format.{Format}
use Rattle.sctp_model.specs.sender.Filling.{newcomer}
use Rattle.sctp_model.proofs.sender.FillLaws.{goes_none}
use Rattle.sctp_packet.specs.Draft.{room_in}
use Rattle.sctp_send.specs.SenderStands.{Keeps}
use Rattle.sctp_send.specs.inner.Asking.{IsAsked}
use Rattle.sctp_send.specs.inner.Stocking.{bare, stocked, NewAnswer}
use Rattle.sctp_send.proofs.fill.TurnLemmas.{turning}
use Rattle.sctp_send.proofs.told.Told.next_by_turn.Goals as goal

pub returns-in_default-clause-goes : goal.returns-in_default-clause-goes
returns-in_default-clause-goes g c = λ v p k room stands.
    let f = g.F.Framing.format in
    let s = bare c.args.self.now in
    let is = turning f c.requires.turns in
    let none = subst (λ (h : Format). NewAnswer h v None) (sym is) (c.in_default.ensures.next s v refl (subst (λ (h : Format). Keeps h (stocked s c.args.stock.now) v) is k)) in
    goes_none f (room_in p) v (stands ∙ ap (option_map (newcomer v)) none)

pub returns-then-not-lets_take-clause-goes : goal.returns-then-not-lets_take-clause-goes
returns-then-not-lets_take-clause-goes g c = λ v p k room stands.
    let f = g.F.Framing.format in
    let s = bare c.args.self.now in
    let is = turning f c.requires.turns in
    let next = subst (λ (h : Format). NewAnswer h v (Some c.in-Some.next)) (sym is) (c.in-Some.ensures.next s v refl (subst (λ (h : Format). Keeps h (stocked s c.args.stock.now) v) is k)) in
    subst (IsAsked f v p) c.if-not-lets_take.true (c.lets_take.ensures.asked v p k room stands next)

pub returns-clause-goes : goal.returns-clause-goes
returns-clause-goes g c = λ v p k room stands.
    let f = g.F.Framing.format in
    let s = bare c.args.self.now in
    let is = turning f c.requires.turns in
    let next = subst (λ (h : Format). NewAnswer h v (Some c.in-Some.next)) (sym is) (c.in-Some.ensures.next s v refl (subst (λ (h : Format). Keeps h (stocked s c.args.stock.now) v) is k)) in
    ((stands, next), subst (IsAsked f v p) c.if-not-lets_take.false (c.lets_take.ensures.asked v p k room stands next))
