use Rattle.std.proofs.Common.{List, ℕ, sym, subst}
use Rattle.sctp_script.specs.Grammar.{Spells}
use Rattle.sctp_script.specs.declared.command.Command.TheVariants as command
use Rattle.sctp_script.proofs.LineLemmas.{six_words, delayed, undelayed}
use Rattle.sctp_script.proofs.pair_words.read_delayed_pair.Goals as goal

pub returns-in-Some : goal.returns-in-Some
returns-in-Some c =
    let are = six_words _ _ _ _ _ _ _ _ _ _ _ _ _ c.requires c.next_word-limit.ensures c.next_word-fragment.ensures c.next_word-buffer.ensures c.next_word-streams.ensures c.next_word-mode.ensures c.next_word.ensures in
    delayed _ _ _ _ _ _ _ _ _ are c.in-Some.ensures (c.is_delay.ensures.0 c.if-not-is_delay.false) c.with_delay.ensures

pub returns-in-None : goal.returns-in-None
returns-in-None c =
    let are = six_words _ _ _ _ _ _ _ _ _ _ _ _ _ c.requires c.next_word-limit.ensures c.next_word-fragment.ensures c.next_word-buffer.ensures c.next_word-streams.ensures c.next_word-mode.ensures c.next_word.ensures in
    λ m says.
    let five = undelayed _ _ _ _ _ _ m (subst (λ (words : List (List ℕ)). Spells command.DelayedPair words m) (sym are) says) in
    c.in-None.ensures five.1 five.2
