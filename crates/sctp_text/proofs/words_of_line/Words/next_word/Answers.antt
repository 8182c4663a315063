use Rattle.std.proofs.Common.{◌≡◌, ◌+◌, ◌-◌, false, length, take, drop, arith, sym, ◌∙◌}
use Rattle.std.proofs.lemmas.Grind.{common_steps}
use Rattle.sctp_text.proofs.WordLemmas.{words_cut, words_whole, not_ended}
use Rattle.sctp_text.proofs.words_of_line.Words.next_word.Goals as goal

pub returns-in-Some : goal.returns-in-Some
returns-in-Some c =
    let rest = c.self.inside.rest.now in
    let going : c.self.inside.ended ≡ false = not_ended _ _ _ c.self.view_is c.requires in
    let all : take (length rest - (c.in-Some.end + 1)) (drop (c.in-Some.end + 1) rest) ≡ drop (c.in-Some.end + 1) rest = grind (arith, common_steps) in
    rw (← c.self.view_is, going, all) (words_cut rest c.in-Some.end (sym c.first_space.ensures ∙ c.in-Some.is))

pub returns-in-None : goal.returns-in-None
returns-in-None c =
    let rest = c.self.inside.rest.now in
    let going : c.self.inside.ended ≡ false = not_ended _ _ _ c.self.view_is c.requires in
    rw (← c.self.view_is, going) (words_whole rest (sym c.first_space.ensures ∙ c.in-None.is))
