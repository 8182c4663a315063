use Rattle.std.proofs.Common.{◌≡◌, ◌≤◌, ◌<◌, ◌-◌, ◌/◌, ◌++◌, ◌∷◌, [], List, length, map, ap, ◌∙◌, arith}
use Rattle.std.proofs.lemmas.Grind.{common_steps}
use Rattle.sctp_recv.specs.declared.restart.ResetResponse.{ResetResponse}
use Rattle.sctp_recv.specs.Resets.{response_of}
use Rattle.sctp_recv.proofs.ResponseLemmas.{joined, left_out}
use Rattle.sctp_recv.proofs.resets.Resets.join.Goals as goal

pub returns-then-len-most_answers-clause-joined : goal.returns-then-len-most_answers-clause-joined
returns-then-len-most_answers-clause-joined c = λ space.
    let xs = c.args.self.now.answers.items in
    let low : length xs < (c.args.limit - 16) / 12 = omega (arith, c.if-len-most_answers.true, c.len.ensures, c.most_answers.ensures, c.args.self.now.answers.ok) in
    let put : c.push.new.self.items ≡ xs ++ c.args.response ∷ [] = grind (arith, common_steps) in
    ap (λ (ys : List ResetResponse). map response_of ys) put ∙ joined c.args.limit xs c.args.response low

pub returns-else-len-most_answers-clause-joined : goal.returns-else-len-most_answers-clause-joined
returns-else-len-most_answers-clause-joined c = λ space.
    let xs = c.args.self.now.answers.items in
    let high : (c.args.limit - 16) / 12 ≤ length xs = omega (arith, c.if-len-most_answers.false, c.len.ensures, c.most_answers.ensures, c.args.self.now.answers.ok) in
    left_out c.args.limit xs c.args.response high
