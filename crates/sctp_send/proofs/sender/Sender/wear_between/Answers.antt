use Rattle.std.proofs.Common.{◌∙◌, ◌-◌, ℕ, Bool, ap}
use Rattle.sctp_send.specs.SenderKept.{Kept}
use Rattle.sctp_send.specs.SenderStands.{StandsFor}
use Rattle.sctp_send.proofs.pace.ToldLemmas.{above_agrees}
use Rattle.sctp_send.proofs.sender.Sender.wear_between.Goals as goal

pub returns : goal.returns
unfolding StandsFor
returns g c = λ v missed stands agree.
    let cum = ap (λ (k : Kept). k.cum) c.self.view_is in
    let first = c.offset_of.ensures ∙ ap (λ (n : ℕ). c.args.from - n - 1) cum in
    let last = c.offset_of-2.ensures ∙ ap (λ (n : ℕ). c.args.below - n - 1) cum in
    let says : ℕ → Bool = g.T.IndexTest.Says c.args.test.now in
    c.wear_offsets.ensures v missed stands (λ k lt. above_agrees g.F.Framing.format _ v says missed c.args.from c.args.below _ _ k stands agree first last lt)
