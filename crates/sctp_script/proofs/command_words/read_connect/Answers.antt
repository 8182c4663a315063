use Rattle.std.proofs.Common.{◌≡◌, None, refl, arith}
use Rattle.std.proofs.lemmas.Grind.{common_steps}
use Rattle.sctp_script.proofs.command_words.read_connect.Goals as goal

pub returns : goal.returns
returns c = ((c.in_ok-draw.draw.tag, (c.in_ok-draw.draw.tsn, tt)), c.in_ok-draw.ensures, tt, refl)

pub returns-in_err-draw : goal.returns-in_err-draw
returns-in_err-draw c =
    let none : c.from_residual.result ≡ None = grind (arith, common_steps) in
    rw none (λ m says. c.in_err-draw.ensures says.0 says.1)
