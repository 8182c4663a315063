use Rattle.std.proofs.Common.{true, refl}
use Rattle.sctp_association.specs.declared.build.packing.Marks.{Marks}
use Rattle.sctp_association.proofs.SameLemmas.{due_same, drafted_same}
use Rattle.sctp_association.proofs.build.packing.Marks.of.Goals as goal

pub returns-clause-same : goal.returns-clause-same
returns-clause-same c = λ v stands.
    let d = c.args.due.now in
    let m : Marks = record {
      init = d.init;
      cookie_echo = d.cookie_echo;
      cookie_ack = d.cookie_ack;
      heartbeat = true;
      causes = true;
      sack = d.sack;
      forward = d.forward;
      answers = true;
      request = d.request;
      shutdown = d.shutdown;
      shutdown_ack = d.shutdown_ack;
      starts = c.none.result;
    } in
    drafted_same m v (due_same m v.due stands.init stands.cookie_echo stands.cookie_ack refl refl stands.sack stands.forward stands.request stands.shutdown stands.shutdown_ack) stands.sack refl c.none.ensures
