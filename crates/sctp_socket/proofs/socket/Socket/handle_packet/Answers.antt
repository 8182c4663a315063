use Rattle.std.proofs.Common.{◌≡◌, Option, Some, None, refl, sym, ap}
use Rattle.sctp_packet.specs.PacketTree.{packet_meaning}
use Rattle.sctp_socket.specs.Hearing.{from_of}
use Rattle.sctp_socket.specs.Peers.{key_of}
use Rattle.sctp_socket.specs.SocketStands.{SocketStands}
use Rattle.sctp_socket.specs.SocketView.{at_time}
use Rattle.sctp_socket.proofs.HeardLemmas.{none_read, some_read, socket_timed}
use Rattle.sctp_socket.proofs.socket.Socket.handle_packet.Goals as goal

pub returns-in-Err : goal.returns-in-Err
unfolding SocketStands
returns-in-Err g c = record {
  step = λ v o seals stands reads all.
      let timed = socket_timed g.E.SocketEnd.Stands c.args.self.now v c.args.now c.later-self.result (c.later-self.ensures v stands) stands in
      rw (none_read c.args.bytes.now o reads c.in-Err.ensures.packet) (at_time v c.args.now, (refl, refl), timed);
}

pub returns-in-Ok : goal.returns-in-Ok
unfolding SocketStands
returns-in-Ok g c = record {
  step = λ v o seals stands reads all.
      let timed = socket_timed g.E.SocketEnd.Stands c.args.self.now v c.args.now c.later-self.result (c.later-self.ensures v stands) stands in
      let p = packet_meaning c.in-Ok.packet in
      let key = key_of v.master (from_of c.args.origin p) in
      rw (some_read c.args.bytes.now o p reads c.in-Ok.ensures.packet c.in-Ok.ensures.fault)
      (c.hear.ensures (at_time v c.args.now) (seals key) timed c.in-Ok.ensures.exact (all key));
}
