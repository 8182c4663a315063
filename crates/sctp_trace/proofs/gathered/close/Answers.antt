use Rattle.std.proofs.Common.{◌≡◌, Err, arith}
use Rattle.std.proofs.lemmas.Grind.{common_steps}
use Rattle.sctp_trace.proofs.ScriptGathered.{not_written}
use Rattle.sctp_trace.proofs.gathered.close.Goals as goal

pub returns-in_err-write_bytes-in_default-clause-closed : goal.returns-in_err-write_bytes-in_default-clause-closed
returns-in_err-write_bytes-in_default-clause-closed g c =
    let w = c.in_err-write_bytes-in_default.ensures.written in
    let fault = c.in_err-write_bytes-in_default.field-0.0 in
    let same : c.from_residual.result ≡ Err fault = grind (arith, common_steps) in
    (w.0, w.1, not_written c.args.ended c.from_residual.result fault c.args.gathered.now w.0 same w.2)
