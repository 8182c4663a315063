use Rattle.std.proofs.Common.{ℕ, subst, sym}
use Rattle.sctp_send.specs.SenderKept.{Kept}
use Rattle.sctp_send.specs.SenderStands.{StandsFor, Keeps}
use Rattle.sctp_send.specs.ResetsKept.{AreResets}
use Rattle.sctp_send.proofs.resetting.ResetKept.{keeps_resets}
use Rattle.sctp_send.proofs.fill.NewMayLemmas.{on_err}
use Rattle.sctp_send.proofs.sender.Sender.reset.Goals as goal

pub returns-in_err-make-clause-memory : goal.returns-in_err-make-clause-memory
unfolding StandsFor
returns-in_err-make-clause-memory g c = λ v stands.
    let s = c.self.inside in
    let f = g.F.Framing.format in
    let keeps = subst (λ (k : Kept). Keeps f k v) (sym c.self.view_is) stands in
    let own = subst (λ (n : ℕ). AreResets n s.told.resets v.resets) (sym keeps.holds.streams) keeps.resets in
    let made = subst (λ (n : ℕ). AreResets n c.make.new.self v.resets) keeps.holds.streams (c.make.ensures.same v.resets own) in
    on_err _ c.from_residual.result (keeps_resets f _ v s.told.forward c.make.new.self v.resets keeps made keeps.forward)

pub returns-clause-step : goal.returns-clause-step
unfolding StandsFor
returns-clause-step g c = λ v stands.
    let s = c.self.inside in
    let f = g.F.Framing.format in
    let keeps = subst (λ (k : Kept). Keeps f k v) (sym c.self.view_is) stands in
    let own = subst (λ (n : ℕ). AreResets n s.told.resets v.resets) (sym keeps.holds.streams) keeps.resets in
    let made = subst (λ (n : ℕ). AreResets n c.make.new.self v.resets) keeps.holds.streams (c.make.ensures.same v.resets own) in
    let shut = c.shut.ensures v.streams v.resets c.in_ok-make.ensures.there made in
    keeps_resets f _ v s.told.forward c.note.new.self _ keeps (c.note.ensures v.streams _ shut) keeps.forward
