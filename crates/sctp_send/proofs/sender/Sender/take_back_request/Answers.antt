use Rattle.std.proofs.Common.{subst, sym}
use Rattle.sctp_model.specs.sender.Resetting.{asked}
use Rattle.sctp_send.specs.ResetAnswers.{WasMade}
use Rattle.sctp_send.specs.SenderKept.{Kept}
use Rattle.sctp_send.specs.SenderStands.{StandsFor, Keeps}
use Rattle.sctp_send.proofs.resetting.ResetKept.{keeps_resets, none_waits}
use Rattle.sctp_send.proofs.sender.Sender.take_back_request.Goals as goal

pub returns : goal.returns
unfolding StandsFor WasMade
returns g c = λ v stands may was.
    let s = c.self.inside in
    let f = g.F.Framing.format in
    let keeps = subst (λ (k : Kept). Keeps f k (asked v)) (sym c.self.view_is) stands in
    keeps_resets f _ (asked v) s.told.forward c.take_back.new.self v.resets keeps (c.take_back.ensures v.streams v.resets _ (none_waits v may) was keeps.resets) keeps.forward
