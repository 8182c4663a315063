use Rattle.std.proofs.Common.{◌≡◌, [], rules}
use Rattle.sctp_trace.specs.inner.ScriptSteps.{IsWrittenOf}
use Rattle.sctp_trace.proofs.ScriptGathered.{passed}
use Rattle.sctp_trace.proofs.gathered.pass_on.Goals as goal

pub returns-clause-written : goal.returns-clause-written
returns-clause-written g c =
    let w = c.write_bytes-written.ensures.written in
    let is : IsWrittenOf c.write_bytes-written.result c.args.gathered.now.items w.0 = rw c.deref.ensures.value at w.2 in
    let empty : c.clear.new.self.items ≡ [] = search rules in
    (w.0, w.1, passed c.write_bytes-written.result c.args.gathered.now.items w.0 c.clear.new.self.items is empty)
