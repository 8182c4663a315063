use Rattle.std.proofs.Common.{◌≡◌, true, false, refl, arith}
use Rattle.std.proofs.lemmas.Grind.{common_steps}
use Rattle.sctp_model.specs.end.Arriving.{Elsewhere, NotOurs}
use Rattle.sctp_model.specs.end.EndView.{Listening}
use Rattle.sctp_model.specs.end.Passing.{has_ports, passes}
use Rattle.sctp_packet.specs.PacketTree.{packet_meaning}
use Rattle.sctp_socket.specs.Routing.{listener_there}
use Rattle.sctp_socket.specs.Places.{place_meaning}
use Rattle.sctp_socket.proofs.ListeningLemmas.{result_leaves}
use Rattle.sctp_socket.proofs.routing.Place.hear.Goals as goal

pub returns-then-not-has_ports-clause-step : goal.returns-then-not-has_ports-clause-step
returns-then-not-has_ports-clause-step c = λ s under.
    let wrong : has_ports c.args.self.now.config (packet_meaning c.args.packet.now) ≡ false = grind (arith, common_steps) in
    Elsewhere wrong

pub returns-then-not-passes-clause-step : goal.returns-then-not-passes-clause-step
returns-then-not-passes-clause-step c = λ s under.
    let ports : has_ports c.args.self.now.config (packet_meaning c.args.packet.now) ≡ true = grind (arith, common_steps) in
    let wrong : passes Listening (packet_meaning c.args.packet.now) ≡ false = grind (arith, common_steps) in
    NotOurs ports wrong

pub returns-clause-step : goal.returns-clause-step
returns-clause-step c = λ s under.
    let ports : has_ports c.args.self.now.config (packet_meaning c.args.packet.now) ≡ true = grind (arith, common_steps) in
    let tag : passes Listening (packet_meaning c.args.packet.now) ≡ true = grind (arith, common_steps) in
    result_leaves (listener_there (place_meaning s c.args.self.now)) c.args.draw (packet_meaning c.args.packet.now) c.listen.result ports tag refl (c.listen.ensures.answer s under)
