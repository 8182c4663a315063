use Rattle.std.proofs.Common.{◌≡◌, true, false, ◌∙◌, rules}
use Rattle.sctp_socket.specs.Routing.{are_found_by_peer}
use Rattle.sctp_socket.specs.SocketStands.{SocketStands}
use Rattle.sctp_socket.proofs.HeardLemmas.{found_for}
use Rattle.sctp_socket.proofs.socket.Socket.find.Goals as goal

pub returns-then-is_found_by_peer : goal.returns-then-is_found_by_peer
unfolding SocketStands
returns-then-is_found_by_peer g c = λ v stands.
    let by : are_found_by_peer c.args.packet.now.chunks ≡ true = search rules in
    rw by (c.number_with.ensures ∙ stands.latest c.args.from.now)

pub returns-else-is_found_by_peer : goal.returns-else-is_found_by_peer
unfolding SocketStands
returns-else-is_found_by_peer g c = λ v stands.
    let by : are_found_by_peer c.args.packet.now.chunks ≡ false = search rules in
    rw by (found_for g.E.SocketEnd.Stands c.args.self.now.table v c.args.packet.now.tag c.args.from.now c.args.source c.find.result stands.table c.find.ensures)
