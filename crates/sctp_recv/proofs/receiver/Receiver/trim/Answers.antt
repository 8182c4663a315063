use Rattle.sctp_recv.specs.KeptOf.{kept_of}
use Rattle.sctp_recv.specs.StandsFor.{StandsFor}
use Rattle.sctp_recv.proofs.RecordedLemmas.{keeps_same}
use Rattle.sctp_recv.proofs.receiver.Receiver.trim.Goals as goal

pub returns : goal.returns
unfolding StandsFor
returns g c = λ v w.
    let k = kept_of c.args.self.now in
    (keeps_same g.F.Framing.format k v _ _ w.0 c.trim.ensures c.trim_all.ensures.same, (c.trim_all.ensures.filed v.kept w.1.0, w.1.1))
