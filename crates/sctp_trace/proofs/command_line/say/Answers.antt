use Rattle.std.proofs.Common.{rules, sym, inr, refl, subst, take, drop, ◌≡◌}
use Rattle.std.proofs.lemmas.List.{take-append-drop}
use Rattle.sctp_trace.specs.ExitStatus.{Begins}
use Rattle.sctp_trace.proofs.command_line.say.Goals as goal

-- a beginning was written, and the rest stands behind it
pub returns-in-Err : goal.returns-in-Err
returns-in-Err g c =
    let cut = c.in-Err.ensures.cut in
    let text = c.as_bytes.result.now in
    let same : text ≡ c.args.text.now = search rules in
    inr (refl, (take cut.0 text, cut.2, subst (Begins (take cut.0 text)) same (drop cut.0 text, sym (take-append-drop cut.0 text))), c.in-Err.ensures.failed)
