use Rattle.std.proofs.Common.{◌≡◌, length, arith}
use Rattle.std.proofs.lemmas.Grind.{common_steps}
use Rattle.sctp_end.specs.Commands.{arguments_of}
use Rattle.sctp_end.specs.Grammar.{IsLineOf}
use Rattle.sctp_end.proofs.LineLemmas.{faultless}
use Rattle.sctp_end.proofs.line.read_line.Goals as goal

pub returns-in-Ok-Some : goal.returns-in-Ok-Some
returns-in-Ok-Some c =
    let found = rw c.in-Ok-Some.field-0-is at c.in-Ok-Some.ensures in
    let named = c.in-Some.ensures in
    let line_is : IsLineOf c.args.line.now c.in-Some.command c.next_word.new.self = cc in
    let count : length c.next_word.new.self ≡ arguments_of c.in-Some.command = grind (arith, common_steps) in
    (faultless _ _ _ _ (omega arith) line_is count found, (_, _, line_is, found))
