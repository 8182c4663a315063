use Rattle.std.proofs.Common.{◌≡◌, ◌∙◌, ◌-◌, ℕ, subst, sym, ap, arith}
use Rattle.sctp_model.specs.sender.Outgoing.{Numbering}
use Rattle.sctp_model.specs.sender.Resetting.{numbered_so, numbering_of}
use Rattle.sctp_send.specs.SenderKept.{Kept}
use Rattle.sctp_send.specs.SenderStands.{StandsFor, Keeps}
use Rattle.sctp_send.proofs.sender.Sender.go_back.Goals as goal

pub returns : goal.returns
unfolding StandsFor
returns g c = λ v q stands waits.
    let keeps = subst (λ (k : Kept). Keeps g.F.Framing.format k v) (sym c.self.view_is) stands in
    let many : v.resets.made - 1 ≡ c.saturating_sub-made.result = let is = keeps.resets.made ∙ sym c.made.ensures in let less = c.saturating_sub-made.ensures in omega (arith, is, less) in
    let which = c.numbering_of-numbering.ensures q (sym keeps.resets.pending ∙ waits) in
    let same = ap (λ (n : ℕ). numbered_so v n (numbering_of q n) q) many ∙ ap (λ (x : Numbering). numbered_so v c.saturating_sub-made.result x q) (sym which) in
    rw same (c.renumber.ensures v q stands waits)
