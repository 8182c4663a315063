use Rattle.std.proofs.Common.{sym, inr, refl, take, drop}
use Rattle.std.proofs.lemmas.List.{take-append-drop}
use Rattle.sctp_trace.proofs.command_line.put.Goals as goal

-- a beginning was written, and the rest stands behind it
pub returns-in-Err : goal.returns-in-Err
returns-in-Err g c =
    let cut = c.in-Err.ensures.cut in
    let lines = c.args.lines.now in
    inr (refl, (take cut.0 lines, cut.2, (drop cut.0 lines, sym (take-append-drop cut.0 lines))), c.in-Err.ensures.failed)
