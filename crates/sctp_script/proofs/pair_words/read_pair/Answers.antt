use Rattle.std.proofs.Common.{List, ℕ, subst}
use Rattle.sctp_script.specs.Grammar.{LineMeaning, Pairs, Spells}
use Rattle.sctp_script.specs.declared.command.Command.TheVariants as command
use Rattle.sctp_script.proofs.LineLemmas.{five_words}
use Rattle.sctp_script.proofs.pair_words.read_pair.Goals as goal

pub returns-in-Some : goal.returns-in-Some
returns-in-Some c =
    let are = five_words _ _ _ _ _ _ _ _ _ _ _ c.requires c.next_word-limit.ensures c.next_word-fragment.ensures c.next_word-buffer.ensures c.next_word-streams.ensures c.next_word-mode.ensures in
    subst (λ (words : List (List ℕ)). Spells command.Pair words (Pairs c.in-Some.config.a)) are c.in-Some.ensures

pub returns-in-None : goal.returns-in-None
returns-in-None c =
    let are = five_words _ _ _ _ _ _ _ _ _ _ _ c.requires c.next_word-limit.ensures c.next_word-fragment.ensures c.next_word-buffer.ensures c.next_word-streams.ensures c.next_word-mode.ensures in
    subst (λ (words : List (List ℕ)). (m : LineMeaning) → Spells command.Pair words m → ⊥) are c.in-None.ensures
