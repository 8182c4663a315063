use Rattle.std.proofs.Common.{◌≡◌, ◌<◌, ℕ, zero, suc, false, List, [], ◌∷◌, length, drop, ap, refl, sym, ◌∙◌, arith}
use Rattle.std.proofs.lemmas.Grind.{common_steps}
use Rattle.sctp_model.specs.sender.Outgoing.{are_listed}
use Rattle.sctp_send.proofs.resetting.naming.are_listed.Goals as goal

listed_none : (xs : List ℕ) (i : ℕ) → i < length xs → are_listed (drop i xs) [] ≡ false
listed_none [] i low = absurd (omega (arith, low))
listed_none (x ∷ xs) zero low = refl
listed_none (x ∷ xs) (suc i) low = listed_none xs i (omega (arith, low))

pub returns-in-None : goal.returns-in-None
returns-in-None c =
    let streams = c.args.streams.now in
    let at = c.loop-stream.stream-index in
    let none : c.loop-stream.left.rest.now ≡ [] = grind (arith, common_steps) in
    sym (c.loop-stream.invariant ∙ ap (λ (ys : List ℕ). are_listed (drop at streams) ys) none ∙ listed_none streams at (omega (arith, c.loop-stream-test.true)))
