use Rattle.std.proofs.Common.{◌≡◌, length, sym, ◌∙◌, arith}
use Rattle.std.specs.Cmp.{booleans_Decides}
use Rattle.std.proofs.lemmas.Grind.{common_steps}
use Rattle.sctp_script.specs.Commands.{arguments_of, is_pair}
use Rattle.sctp_script.specs.Grammar.{IsLineOf}
use Rattle.sctp_script.specs.ReadLineAnswer.{acting_meaning}
use Rattle.sctp_script.proofs.LineLemmas.{Reads, out_of_order, in_order}
use Rattle.sctp_script.proofs.line.read_line.Goals as goal

pub returns-then-is_pair-paired : goal.returns-then-is_pair-paired
returns-then-is_pair-paired c =
    let found = rw c.in-Ok-Some.field-0-is at c.in-Ok-Some.ensures in
    let named = c.in-Some.ensures in
    let form = c.in-Some-with_arguments.ensures in
    let line_is : IsLineOf c.args.line.now c.in-Some-with_arguments.command c.next_word.new.self = cc in
    let count : length c.next_word.new.self ≡ arguments_of c.in-Some-with_arguments.command = grind (arith, common_steps) in
    let reads : Reads c.args.line.now c.in-Some-with_arguments.command c.next_word.new.self (acting_meaning c.in-Ok-Some.acting) = record { short = omega arith; line_is = line_is; count = count; says = found.found } in
    let order : is_pair c.in-Some-with_arguments.command ≡ c.args.paired = sym c.is_pair.ensures ∙ (booleans_Decides _ _).0 c.if-is_pair-paired.true in
    out_of_order _ _ _ _ _ reads order

pub returns-else-is_pair-paired : goal.returns-else-is_pair-paired
returns-else-is_pair-paired c =
    let found = rw c.in-Ok-Some.field-0-is at c.in-Ok-Some.ensures in
    let named = c.in-Some.ensures in
    let form = c.in-Some-with_arguments.ensures in
    let line_is : IsLineOf c.args.line.now c.in-Some-with_arguments.command c.next_word.new.self = cc in
    let count : length c.next_word.new.self ≡ arguments_of c.in-Some-with_arguments.command = grind (arith, common_steps) in
    let reads : Reads c.args.line.now c.in-Some-with_arguments.command c.next_word.new.self (acting_meaning c.in-Ok-Some.acting) = record { short = omega arith; line_is = line_is; count = count; says = found.found } in
    let order : is_pair c.in-Some-with_arguments.command ≡ c.args.paired → ⊥ = grind (arith, common_steps) in
    in_order _ _ _ _ c.in-Ok-Some.acting reads order
