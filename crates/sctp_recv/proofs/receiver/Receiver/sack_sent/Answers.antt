use Rattle.std.proofs.Common.{[], sym}
use Rattle.sctp_model.proofs.receiver.AtRest.{sent_at_rest}
use Rattle.sctp_recv.specs.KeptOf.{kept_of}
use Rattle.sctp_recv.specs.StandsFor.{StandsFor}
use Rattle.sctp_recv.proofs.RecordedLemmas.{keeps_duplicates}
use Rattle.sctp_recv.proofs.receiver.Receiver.sack_sent.Goals as goal

pub returns : goal.returns
unfolding StandsFor
returns g c = λ v w.
    let f = g.F.Framing.format in
    (keeps_duplicates f (kept_of c.args.self.now) v _ [] w.0 (sym c.truncate.ensures), (w.1.0, (sent_at_rest f v w.1.1.0, w.1.1.1)))
