-- The association with each peer (RFC 9260, 5.2 and 8.5.1).
use Rattle.std.specs.Prelude.{ℕ, Option}
use Rattle.std.specs.Ordering.{nat_cmp}
use Rattle.std.specs.Cmp.Lexicographic.{slice_cmp}
use Rattle.std.specs.BTreeMap.{get, Updates, IsUnchanged, IsEmpty}
use Rattle.sctp_socket.specs.Peers.{text_of}
use Rattle.sctp_socket.specs.declared.peer.Peer.{Peer}
use Rattle.sctp_socket.specs.declared.by_peer.ByPeer.{ByPeer}

-- the number of the latest association with this peer: peers are known by their texts, which no two share
abbrev pub number_with : ByPeer → Peer → Option ℕ
number_with m p = get (slice_cmp nat_cmp) m.numbers (text_of p)

-- no peer
abbrev pub HasNone : ByPeer → Type 0
HasNone m = IsEmpty m.numbers

-- the same, but for this peer
abbrev pub Puts : Peer → (number : Option ℕ) → (m n : ByPeer) → Type 0
Puts p number m n = Updates (slice_cmp nat_cmp) m.numbers n.numbers (text_of p) number

-- the same
abbrev pub Keeps : (m n : ByPeer) → Type 0
Keeps m n = IsUnchanged m.numbers n.numbers
