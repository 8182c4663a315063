use Rattle.std.proofs.Common.{◌≡◌, ℕ, List, [], drop, ap, sym, ◌∙◌, arith}
use Rattle.std.proofs.lemmas.Grind.{common_steps}
use Rattle.sctp_model.specs.sender.Outgoing.{are_listed}
use Rattle.sctp_recv.proofs.PostponedLemmas.{listed_none}
use Rattle.sctp_recv.proofs.postponed.is_list.Goals as goal

pub returns-in-None : goal.returns-in-None
returns-in-None c =
    let known = c.args.known.now in
    let at = c.loop-stream.stream-index in
    let none : c.loop-stream.others ≡ [] = grind (arith, common_steps) in
    sym (c.loop-stream.invariant ∙ ap (λ (ys : List ℕ). are_listed (drop at known) ys) none ∙ listed_none known at (omega (arith, c.loop-stream-test.true)))
