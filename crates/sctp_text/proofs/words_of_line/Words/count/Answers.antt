use Rattle.std.proofs.Common.{◌≡◌, ◌==◌, rules, refl}
use Rattle.std.specs.List.{count_by}
use Rattle.sctp_text.specs.declared.limits.TheConstants.{SPACE}
use Rattle.sctp_text.proofs.WordLemmas.{length-words_of}
use Rattle.sctp_text.proofs.words_of_line.Words.count.Goals as goal

pub returns : goal.returns
returns c =
    let rest = c.self.inside.rest.now in
    let spaces : c.count.result ≡ count_by (λ x. x == SPACE) rest = search rules in
    rw (← c.self.view_is, c.if-self.false, length-words_of rest, spaces) refl
