use Rattle.std.proofs.Common.{arith, ◌≡◌, ap, sym, ◌∙◌, Some}
use Rattle.std.specs.Prelude.{option_map}
use Rattle.std.proofs.lemmas.Grind.{common_steps}
use Rattle.clap.specs.Values.{kind_text}
use Rattle.sctp_trace.proofs.command_line.words_text.Goals as goal

-- what is wrong has words
pub returns-in-Some : goal.returns-in-Some
returns-in-Some c =
    let is : kind_text c.args.kind ≡ Some c.in-Some.reason.now = sym c.as_str.ensures ∙ ap (option_map (λ s. s.now)) c.in-Some.is in
    rw is grind (arith, common_steps)
