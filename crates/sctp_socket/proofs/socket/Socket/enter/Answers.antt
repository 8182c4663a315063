use Rattle.std.proofs.Common.{◌≡◌, ◌++◌, ◌∷◌, [], Some, rules}
use Rattle.sctp_socket.specs.ByPeer as peers
use Rattle.sctp_socket.specs.SocketStands.{SocketStands}
use Rattle.sctp_socket.specs.Table.{Adds, IsSame}
use Rattle.sctp_socket.specs.Turns.{waiting_of}
use Rattle.sctp_socket.proofs.SocketLemmas.{entered, withdrawn}
use Rattle.sctp_socket.proofs.socket.Socket.enter.Goals as goal

pub returns-in-Ok-Some-clause-step : goal.returns-in-Ok-Some-clause-step
unfolding SocketStands
returns-in-Ok-Some-clause-step g c = λ v x stands e.
    let s = c.args.self.now in
    let items : waiting_of c.add.new.self ≡ waiting_of s.turns ++ c.next-number.result ∷ [] = search rules in
    let puts : peers.Puts c.args.entry.peer (Some c.next-number.result) s.peers c.put.new.self = search rules in
    let adds : Adds s.table c.args.entry c.in-Ok-Some.number c.«open».new.self = search rules in
    entered g.E.SocketEnd.Stands s c.«open».new.self c.put.new.self c.add.new.self v c.args.entry x c.next-number.result c.in-Ok-Some.number c.next-number.ensures items puts adds stands e

pub returns-in-Ok-None-clause-refused : goal.returns-in-Ok-None-clause-refused
unfolding SocketStands
returns-in-Ok-None-clause-refused g c = λ v stands.
    let s = c.args.self.now in
    let items : waiting_of c.add.new.self ≡ waiting_of s.turns ++ c.next-number.result ∷ [] = search rules in
    let puts : peers.Puts c.args.entry.peer (Some c.next-number.result) s.peers c.put.new.self = search rules in
    let back : peers.Puts c.args.entry.peer (peers.number_with s.peers c.args.entry.peer) c.put.new.self c.restore.new.self = search rules in
    let same : IsSame s.table c.«open».new.self = search rules in
    withdrawn g.E.SocketEnd.Stands s c.«open».new.self c.put.new.self c.restore.new.self c.withdraw-in-Ok-None.new.self v c.args.entry.peer c.next-number.result same puts back
    (c.withdraw-in-Ok-None.ensures (waiting_of s.turns) c.next-number.result items) stands
