use Rattle.sctp_recv.specs.StandsFor.{StandsFor}
use Rattle.sctp_recv.proofs.ShownLemmas.{readable_is}
use Rattle.sctp_recv.proofs.receiver.Receiver.readable.Goals as goal

pub returns : goal.returns
unfolding StandsFor
returns g c = λ v w. readable_is c.args.self.now.ready.words.items v.waiting v.streams c.args.from c.next.result w.1.1.1.1 c.next.ensures
