use Rattle.std.proofs.Common.{arith}
use Rattle.sctp_recv.specs.StandsFor.{StandsFor}
use Rattle.sctp_recv.proofs.ReassemblyLemmas.{none_waits}
use Rattle.sctp_recv.proofs.receiver.Receiver.reassembly_bytes.Goals as goal

pub returns-in-None : goal.returns-in-None
unfolding StandsFor
returns-in-None g c = λ v w.
    let none = none_waits v.waiting v.streams (λ q. c.in-None.ensures v w q (omega arith)) in
    omega (arith, w.0.held, none)

pub returns-in-Some : goal.returns-in-Some
unfolding StandsFor
returns-in-Some g c = λ v w. c.kept_on_all.ensures v.kept w.1.0 (omega (arith, w.0.held, w.0.room, w.0.small))
