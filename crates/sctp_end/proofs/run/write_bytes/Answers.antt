use Rattle.std.proofs.Common.{sym, take, drop}
use Rattle.std.proofs.lemmas.List.{take-append-drop}
use Rattle.sctp_end.proofs.run.write_bytes.Goals as goal

pub returns-in-Err-clause-written : goal.returns-in-Err-clause-written
returns-in-Err-clause-written g c =
    let cut = c.in-Err.ensures.cut in
    (take cut.0 c.args.bytes.now, cut.2, (drop cut.0 c.args.bytes.now, sym (take-append-drop cut.0 c.args.bytes.now)))
