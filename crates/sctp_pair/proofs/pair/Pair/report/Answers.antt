use Rattle.std.proofs.Common.{◌≡◌, ℕ, List, ◌++◌, refl, ap, ◌∙◌}
use Rattle.sctp_model.specs.world.World.{A, B}
use Rattle.sctp_script.specs.ReportText.{end_report}
use Rattle.sctp_pair.specs.Sides.{side_of}
use Rattle.sctp_pair.specs.PairStands.{PairStands}
use Rattle.sctp_pair.proofs.pair.Pair.report.Goals as goal

pub returns : goal.returns
unfolding PairStands
returns c = λ w stands.
    let of_a : c.put_side.new.out.items ≡ end_report A w.a w.log_a = c.in_ok-put_side.ensures (side_of w A) stands.a ∙ rw c.new-text.ensures.items refl in
    c.in_ok-put_side-2.ensures (side_of w B) stands.b ∙ ap (λ (ys : List ℕ). ys ++ end_report B w.b w.log_b) of_a
