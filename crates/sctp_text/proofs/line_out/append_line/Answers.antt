use Rattle.std.proofs.Common.{map, decimal, arith, append_assoc}
use Rattle.std.proofs.lemmas.Grind.{common_steps}
use Rattle.sctp_text.specs.WrittenWords.{text_of}
use Rattle.sctp_text.proofs.WrittenLines.{behind-append}
use Rattle.sctp_text.proofs.line_out.append_line.Goals as goal

pub returns-clause-put : goal.returns-clause-put
returns-clause-put c =
    rw (behind-append (map text_of c.args.words.now) (map decimal c.args.numbers.now)) (grind (arith, common_steps, append_assoc))
