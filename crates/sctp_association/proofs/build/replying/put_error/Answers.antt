use Rattle.std.proofs.Common.{◌≡◌, ◌∙◌, ℕ, ◌<◌, List, length, ap, sym, subst, arith}
use Rattle.std.proofs.lemmas.Grind.{common_steps}
use Rattle.sctp_model.specs.end.Building.{ErrorSlot}
use Rattle.sctp_association.proofs.PutLemmas.{not_due, no_causes_left, some_causes}
use Rattle.sctp_association.proofs.build.replying.put_error.Goals as goal

pub returns-then-is_empty : goal.returns-then-is_empty
returns-then-is_empty c = λ e due packet.
    let none : length c.args.due.now.causes.bytes.items ≡ 0 = grind (arith, common_steps) in
    not_due ErrorSlot e c.args.packing.now (no_causes_left c.args.packing.now.marks.causes e.due.causes (sym (ap length due.causes.bytes_are) ∙ none)) packet

pub returns : goal.returns
returns c = λ e due packet.
    let some : 0 < length c.args.due.now.causes.bytes.items = grind (arith, common_steps) in
    c.put_causes.ensures e due.causes.bytes_are (some_causes e.due.causes (subst (λ (ys : List ℕ). 0 < length ys) due.causes.bytes_are some)) packet
