use Rattle.std.proofs.Common.{◌≡◌, None, take, drop, ◌+◌, rules, arith}
use Rattle.std.proofs.lemmas.List.{take_rest}
use Rattle.std.proofs.lemmas.Grind.{common_steps}
use Rattle.sctp_words.proofs.LimitLemmas.{cut_at, lacks_all, no_time, no_count, no_until}
use Rattle.sctp_words.proofs.fields.read_until_limit.Goals as goal

pub returns-in_err-until-in-Some : goal.returns-in_err-until-in-Some
returns-in_err-until-in-Some c =
    let none : c.from_residual.result ≡ None = grind (arith, common_steps) in
    let cut = cut_at c.args.word.now c.in-Some.at (search rules) (search rules) (search rules) in
    rw none (no_time _ _ _ cut c.in_err-until-in-Some.ensures)

pub returns-in_err-limit-in-Some : goal.returns-in_err-limit-in-Some
returns-in_err-limit-in-Some c =
    let none : c.from_residual-in_err-limit-in-Some.result ≡ None = grind (arith, common_steps) in
    let cut = cut_at c.args.word.now c.in-Some.at (search rules) (search rules) (search rules) in
    rw none (no_count _ _ _ cut (rw take_rest at c.in_err-limit-in-Some.ensures))

pub returns-in_err-until-in-None : goal.returns-in_err-until-in-None
returns-in_err-until-in-None c =
    let none : c.from_residual-in_err-until-in-None.result ≡ None = grind (arith, common_steps) in
    rw none (no_until c.args.word.now (lacks_all c.args.word.now (search rules)) c.in_err-until-in-None.ensures)

pub returns-in_ok-limit-in-Some : goal.returns-in_ok-limit-in-Some
returns-in_ok-limit-in-Some c =
    let cut = cut_at c.args.word.now c.in-Some.at (search rules) (search rules) (search rules) in
    record {
      time = take c.in-Some.at c.args.word.now;
      count = drop (c.in-Some.at + 1) c.args.word.now;
      whole = cut.whole;
      lifetime = c.in_ok-until-in-Some.ensures;
      number = rw take_rest at c.in_ok-limit-in-Some.ensures;
    }
