use Rattle.std.proofs.Common.{◌≡◌, ℕ, List, ◌∷◌, length, sym, ap, ◌∙◌, arith}
use Rattle.std.proofs.lemmas.Grind.{common_steps}
use Rattle.sctp_script.specs.declared.command.Command.TheVariants as command
use Rattle.sctp_script.specs.Commands.{arguments_of}
use Rattle.sctp_script.specs.Grammar.{IsLineOf}
use Rattle.sctp_script.proofs.LimitedLemmas.{line_says, may_want}
use Rattle.sctp_script.proofs.LineLemmas.{first_and_others}
use Rattle.sctp_script.proofs.limited_send.read_limited_send.Goals as goal

pub next_word-requires : goal.next_word-requires
next_word-requires c = let (w, ws, is) = first_and_others c.args.line.now in omega (arith, ap length (c.of-words.ensures ∙ is))

pub returns-clause-found : goal.returns-clause-found
returns-clause-found c =
    let first = c.is_send.ensures.0 c.if-not-is_send.false in
    let line_is : IsLineOf c.args.line.now command.Send c.next_word.new.self = sym c.of-words.ensures ∙ c.next_word.ensures ∙ ap (λ (w : List ℕ). w ∷ c.next_word.new.self) first in
    line_says c.args.line.now c.next_word.new.self c.read_words.result (omega arith) line_is c.read_words.ensures

pub returns-clause-memory : goal.returns-clause-memory
returns-clause-memory c =
    let first = c.is_send.ensures.0 c.if-not-is_send.false in
    let line_is : IsLineOf c.args.line.now command.Send c.next_word.new.self = sym c.of-words.ensures ∙ c.next_word.ensures ∙ ap (λ (w : List ℕ). w ∷ c.next_word.new.self) first in
    let count : length c.next_word.new.self ≡ arguments_of command.Send = grind (arith, common_steps) in
    may_want c.args.line.now c.next_word.new.self c.read_words.result line_is count
