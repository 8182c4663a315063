use Rattle.std.proofs.Common.{ℕ, List, length, subst, sym, ap, ◌∙◌}
use Rattle.sctp_send.specs.SenderKept.{Kept}
use Rattle.sctp_send.specs.SenderStands.{StandsFor, Keeps}
use Rattle.sctp_send.proofs.resetting.StillLemmas.{listed_count}
use Rattle.sctp_send.proofs.sender.Sender.resetting_streams.Goals as goal

pub returns : goal.returns
unfolding StandsFor
returns g c = λ v stands.
    let f = g.F.Framing.format in
    let keeps = subst (λ (k : Kept). Keeps f k v) (sym c.self.view_is) stands in
    ap (λ (xs : List ℕ). length xs) c.resetting.ensures ∙ listed_count f _ v keeps
