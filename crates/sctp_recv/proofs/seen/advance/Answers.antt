use Rattle.std.proofs.Common.{◌≡◌, List, [], sym, ◌∙◌, subst}
use Rattle.sctp_recv.specs.declared.runs.SeenRun.{SeenRun}
use Rattle.sctp_recv.specs.Runs.{IsPlace, begins_by}
use Rattle.sctp_recv.proofs.RunBounds.{advanced_none}
use Rattle.sctp_recv.proofs.RunLemmas.{nothing_there}
use Rattle.sctp_recv.proofs.seen.advance.Goals as goal

pub returns-then-is_empty : goal.returns-then-is_empty
returns-then-is_empty c =
    let runs = c.args.runs.now.items in
    let none : runs ≡ [] = nothing_there runs (sym c.is_empty.ensures ∙ c.if-is_empty.true) in
    let place : IsPlace (begins_by c.args.index) runs 0 = subst (λ (rs : List SeenRun). IsPlace (begins_by c.args.index) rs 0) (sym none) (record { front = λ r h. absurd h; back = λ r h. absurd h }) in
    advanced_none runs c.args.index c.requires place
