use Rattle.std.proofs.Common.{◌≡◌, ◌<◌, ◌∷◌, List, ℕ, length, ap, sym, ◌∙◌, arith}
use Rattle.std.proofs.lemmas.Grind.{common_steps}
use Rattle.sctp_text.specs.SpacedWords.{words_of}
use Rattle.sctp_script.specs.OptionLines.{options_word}
use Rattle.sctp_script.specs.Ends.{ends_word}
use Rattle.sctp_script.proofs.OptionWords.{three_words, some_given}
use Rattle.sctp_script.proofs.LineLemmas.{first_and_others}
use Rattle.sctp_script.proofs.options.read_ends.Goals as goal

pub next_word-requires : goal.next_word-requires
next_word-requires c = let (w, ws, is) = first_and_others c.args.line.now in omega (arith, ap length (c.of-words.ensures ∙ is))

pub returns-then-count-lt2 : goal.returns-then-count-lt2
returns-then-count-lt2 c = λ x gs line.
    let three = three_words c.args.line.now x gs line in
    omega (arith, three, ap length (sym c.of-words.ensures ∙ c.next_word.ensures))

pub returns-then-are_options : goal.returns-then-are_options
returns-then-are_options c =
    let (gs, are) = c.are_options.ensures.0 (grind (arith, common_steps)) in
    let first = c.is_options.ensures.0 c.if-not-is_options.false in
    let words : words_of c.args.line.now ≡ options_word ∷ ends_word c.in_ok-named.named ∷ c.next_word-2.new.self =
    sym c.of-words.ensures ∙ c.next_word.ensures ∙ ap (λ (w : List ℕ). w ∷ c.next_word.new.self) first
    ∙ ap (λ (ws : List (List ℕ)). options_word ∷ ws) (c.next_word-2.ensures ∙ ap (λ (w : List ℕ). w ∷ c.next_word-2.new.self) c.in_ok-named.ensures) in
    let some : 0 < length c.next_word-2.new.self = omega (arith, ap length c.next_word-2.ensures) in
    (gs, (omega arith, some_given c.next_word-2.new.self gs are some, c.next_word-2.new.self, words, are))
