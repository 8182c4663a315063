use Rattle.std.proofs.Common.{◌≡◌, ◌∙◌, ℕ, subst, sym, ap}
use Rattle.sctp_model.specs.sender.Outgoing.{NextNumber}
use Rattle.sctp_model.specs.sender.Resetting.{numbered_so}
use Rattle.sctp_send.specs.SenderKept.{Kept}
use Rattle.sctp_send.specs.SenderStands.{StandsFor, Keeps}
use Rattle.sctp_send.proofs.sender.Sender.keep_asking.Goals as goal

pub returns : goal.returns
unfolding StandsFor
returns g c = λ v q stands waits.
    let keeps = subst (λ (k : Kept). Keeps g.F.Framing.format k v) (sym c.self.view_is) stands in
    let many : v.resets.made ≡ c.made-made.result = keeps.resets.made ∙ sym c.made-made.ensures in
    rw (ap (λ (n : ℕ). numbered_so v n NextNumber q) many) (c.renumber.ensures v q stands waits)
