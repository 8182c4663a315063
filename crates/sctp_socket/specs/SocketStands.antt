-- Which socket of the code is which socket (RFC 6458, 3).
use Rattle.std.specs.Prelude.{◌≡◌, ℕ, Option, Some, None}
use Rattle.sctp_model.specs.end.EndView.{EndView}
use Rattle.sctp_socket.specs.ByPeer.{number_with}
use Rattle.sctp_socket.specs.Table.{entry_of, tagged, next_of}
use Rattle.sctp_socket.specs.Turns.{waiting_of}
use Rattle.sctp_socket.specs.SocketView.{Slot, SocketView}
use Rattle.sctp_socket.specs.declared.peer.Peer.{Peer}
use Rattle.sctp_socket.specs.declared.table.Entry.{Entry}
use Rattle.sctp_socket.specs.declared.table.Table.{Table}
use Rattle.sctp_socket.specs.declared.socket.Socket.{Socket}

module _ {E : Type 0} (Stands : E → EndView → Type 0) where
  -- an association, whose endpoint represents this one's state
  pub record IsSlot (e : Entry E) (x : Slot) : Type 0 where
    pub peer : e.peer ≡ x.peer
    pub own : e.own ≡ x.own
    pub bar : e.bar ≡ x.bar
    pub current : e.current ≡ x.current
    pub end : Stands e.end x.end

  -- the same of one that there may be
  abbrev pub AreSlots : Option (Entry E) → Option Slot → Type 0
  AreSlots None None = Unit {0}
  AreSlots None (Some x) = ⊥
  AreSlots (Some e) None = ⊥
  AreSlots (Some e) (Some x) = IsSlot e x

  -- the associations by number and by tag
  pub record IsTable (t : Table E) (v : SocketView) : Type 0 where
    pub next : next_of t ≡ v.next
    pub slots : (n : ℕ) → AreSlots (entry_of t n) (v.slots n)
    pub tagged : (tag : ℕ) → tagged t tag ≡ v.tagged tag

  -- each part is its part
  pub record IsSocket (s : Socket E) (v : SocketView) : Type 0 where
    pub configuration : s.config ≡ v.configuration
    pub master : s.master ≡ v.master
    pub room : s.room ≡ v.room
    pub moment : s.moment ≡ v.moment
    pub table : IsTable s.table v
    pub latest : (p : Peer) → number_with s.peers p ≡ v.latest p
    pub turns : waiting_of s.turns ≡ v.turns

  -- It is this socket. Hidden from the crates above, which know it by the clauses alone.
  unfoldable pub SocketStands : Socket E → SocketView → Type 0
  SocketStands s v = IsSocket s v
