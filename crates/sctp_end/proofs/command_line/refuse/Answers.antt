use Rattle.std.proofs.Common.{◌≡◌, inr, refl, sym, subst, take, drop, rules}
use Rattle.std.proofs.lemmas.List.{take-append-drop}
use Rattle.sctp_end.specs.declared.command_line.TheConstants.{USAGE}
use Rattle.sctp_end.specs.Answering.{Begins}
use Rattle.sctp_end.proofs.command_line.refuse.Goals as goal

pub returns-in-Err-clause-tells : goal.returns-in-Err-clause-tells
returns-in-Err-clause-tells g c =
    let cut = c.in-Err.ensures.cut in
    let text = c.as_bytes.result.now in
    let same : text ≡ USAGE.now = search rules in
    (take cut.0 text, cut.2, inr (refl, subst (Begins (take cut.0 text)) same (drop cut.0 text, sym (take-append-drop cut.0 text))))
