use Rattle.sctp_socket.specs.SocketStands.{SocketStands}
use Rattle.sctp_socket.proofs.SocketLemmas.{socket_retired}
use Rattle.sctp_socket.proofs.socket.Socket.retire.Goals as goal

pub returns-in-Some : goal.returns-in-Some
unfolding SocketStands
returns-in-Some g c = λ v stands. rw c.in-Some.is (socket_retired g.E.SocketEnd.Stands c.args.self.now c.retire.new.self v c.in-Some.number c.retire.ensures.step c.retire.ensures.none stands)
