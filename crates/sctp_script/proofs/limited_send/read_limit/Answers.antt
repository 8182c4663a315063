use Rattle.std.proofs.Common.{◌≡◌, None, Some, arith}
use Rattle.std.proofs.lemmas.Grind.{common_steps}
use Rattle.sctp_words.proofs.LimitLemmas.{limit_or_until}
use Rattle.sctp_script.proofs.limited_send.read_limit.Goals as goal

pub returns-in_err-until : goal.returns-in_err-until
returns-in_err-until c =
    let none : c.from_residual.result ≡ None = grind (arith, common_steps) in
    rw none (λ until n says. c.in_err-until.ensures until (Some n) says)

pub returns-in_err-limit : goal.returns-in_err-limit
returns-in_err-limit c =
    let none : c.from_residual-in_err-limit.result ≡ None = grind (arith, common_steps) in
    let is = rw c.in_err-limit.was at c.in_ok-until.ensures in
    rw none (λ until n says. limit_or_until c.args.word.now c.in_ok-until.until until n is says)
