use Rattle.std.proofs.Common.{◌≡◌, refl}
use Rattle.std.proofs.lemmas.Grind.{common_steps}
use Rattle.std.proofs.Common.{arith, true, false}
use Rattle.sctp_pair.proofs.TakenLemmas.{notes_unordered, notes_ordered, notes_unnumbered}
use Rattle.sctp_pair.proofs.taken.StreamLog.note.Goals as goal

pub returns-then-not-message : goal.returns-then-not-message
returns-then-not-message c = λ hs is.
    let unordered : c.args.message.now.ordered ≡ false = grind (arith, common_steps) in
    notes_unordered c.args.self.now hs c.args.message.now is unordered

pub returns-in-Some : goal.returns-in-Some
returns-in-Some c = λ hs is.
    let ordered : c.args.message.now.ordered ≡ true = grind (arith, common_steps) in
    notes_ordered c.args.self.now (record { numbers = c.push_reserved.new.self; unordered = c.args.self.now.unordered }) hs c.args.message.now c.in-Some.number is ordered c.in-Some.is c.push_reserved.ensures.items refl

pub returns-in_default : goal.returns-in_default
returns-in_default c = λ hs is.
    let ordered : c.args.message.now.ordered ≡ true = grind (arith, common_steps) in
    notes_unnumbered c.args.self.now hs c.args.message.now is ordered c.in_default.is
