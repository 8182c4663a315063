use Rattle.sctp_socket.proofs.PeerLaws.{same_decides}
use Rattle.sctp_socket.proofs.peer.is_one_host.Goals as goal

pub returns : goal.returns
returns c = rw c.is_same_host.ensures (same_decides c.args.one.now c.args.other.now)
