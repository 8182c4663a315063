-- A call that is refused by nothing.
use Rattle.std.proofs.Common.{◌≡◌, ◌==◌, false, None, refl}
use Rattle.sctp_model.specs.end.EndView.{Draw}
use Rattle.sctp_socket.specs.Connecting.{call_fault, is_with}
use Rattle.sctp_socket.specs.SocketView.{SocketView, is_taken, slot_at, standing_of}
use Rattle.sctp_socket.specs.declared.peer.Peer.{Peer}

pub no_fault : (v : SocketView) (p : Peer) (d : Draw) → (p.port == 0) ≡ false → is_with (standing_of (slot_at v (v.latest p))) ≡ false → (v.room == 0) ≡ false →
    is_taken v d.tag None ≡ false → call_fault v p d ≡ None
no_fault v p d port apart room free = rw (port, apart, room, free) refl
