use Rattle.std.proofs.Common.{◌≡◌, length, sym, ap, ◌∙◌, arith}
use Rattle.std.proofs.lemmas.Grind.{common_steps}
use Rattle.sctp_script.specs.FurtherLines.{further_arguments}
use Rattle.sctp_script.proofs.LineLemmas.{first_and_others}
use Rattle.sctp_script.proofs.FurtherLemmas.{is_none, is_line}
use Rattle.sctp_script.proofs.further_line.read_further_line.Goals as goal

pub next_word-requires : goal.next_word-requires
next_word-requires c = let (w, ws, is) = first_and_others c.args.line.now in omega (arith, ap length (c.of-words.ensures ∙ is))

pub returns-then-line-gt-LONGEST_LINE : goal.returns-then-line-gt-LONGEST_LINE
returns-then-line-gt-LONGEST_LINE c = λ d args is. omega (arith, is.0, c.if-line-gt-LONGEST_LINE.true)

pub returns-in_default : goal.returns-in_default
returns-in_default c = is_none c.args.line.now _ _ (sym c.of-words.ensures ∙ c.next_word.ensures) c.in_default.ensures

pub returns-in-Some-read_words : goal.returns-in-Some-read_words
returns-in-Some-read_words c =
    (c.in-Some.command, c.next_word.new.self, is_line c.args.line.now _ _ _ (omega arith) (sym c.of-words.ensures ∙ c.next_word.ensures) c.in-Some.ensures, c.in-Some-read_words.ensures)

pub returns-in-None : goal.returns-in-None
returns-in-None c =
    let count : length c.next_word.new.self ≡ further_arguments c.in-Some.command = grind (arith, common_steps) in
    (c.in-Some.command, c.next_word.new.self, is_line c.args.line.now _ _ _ (omega arith) (sym c.of-words.ensures ∙ c.next_word.ensures) c.in-Some.ensures, (count, c.in-None.ensures))
