use Rattle.std.proofs.Common.{ℕ, subst, sym, ap, ◌∙◌, arith}
use Rattle.std.proofs.lemmas.Bool.Decides.{nat_tests}
use Rattle.sctp_model.specs.sender.Outgoing.{is_later}
use Rattle.sctp_model.specs.sender.Resetting.{numbering_of}
use Rattle.sctp_send.specs.SenderKept.{Kept}
use Rattle.sctp_send.specs.SenderStands.{StandsFor, Keeps}
use Rattle.sctp_send.proofs.sender.Sender.is_uncounted.Goals as goal

pub returns-then-code-eq-BAD_NUMBER : goal.returns-then-code-eq-BAD_NUMBER
unfolding StandsFor
returns-then-code-eq-BAD_NUMBER g c = λ v q stands waits.
    let keeps = subst (λ (k : Kept). Keeps g.F.Framing.format k v) (sym c.self.view_is) stands in
    let past = c.is_past_first.ensures q (sym keeps.resets.pending ∙ waits) ∙ ap (λ (n : ℕ). is_later (numbering_of q n)) (c.made-made.ensures ∙ sym keeps.resets.made) in
    let code = c.if-code-eq-BAD_NUMBER.true in
    grind (arith, nat_tests)
