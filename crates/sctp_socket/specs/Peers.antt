-- Peers by their addresses, each address as the text of a MAC, and the key of a peer's cookies (RFC 2104; RFC 6951, 5.4; RFC 9260, 5.1.3).
use Rattle.std.specs.Prelude.{◌≡◌, ℕ, ◌-◌, ◌/◌, ◌%◌, ◌≤◌, Bool, ◌&&◌, ◌==◌, List, [], ◌∷◌, ◌++◌, length, replicate}
use Rattle.std.specs.Str.{bytes_eq}
use Rattle.sctp_cookie.specs.Hmac.{hmac}
use Rattle.sctp_socket.specs.declared.peer.Host.{Host}
use Rattle.sctp_socket.specs.declared.peer.Peer.{Peer}
use Rattle.sctp_socket.specs.declared.peer.Source.{Source}
use Rattle.sctp_socket.specs.declared.peer.Source.TheVariants.{Claimed, Proved}

-- 1 to 32 bytes
abbrev pub IsHost : List ℕ → Type 0
IsHost bytes = (1 ≤ length bytes) × (length bytes ≤ 32)

-- the host with these bytes: they are followed by zeros up to 32, and so many of them count
abbrev pub host_of : List ℕ → Host
host_of bytes = record { bytes = bytes ++ replicate (32 - length bytes) 0; size = length bytes }

-- the 37 bytes that stand for a peer
abbrev pub text_of : Peer → List ℕ
text_of p = p.host.bytes ++ p.host.size ∷ p.udp_port / 256 ∷ p.udp_port % 256 ∷ p.port / 256 ∷ p.port % 256 ∷ []

-- The key under which cookies are sealed for a peer: that which is derived of the master key for its text.
abbrev pub key_of : (master : List ℕ) → Peer → List ℕ
key_of master p = hmac master (text_of p)

-- ---- where a packet is from

-- the same bytes, as many of them
abbrev pub is_same_host : Host → Host → Bool
is_same_host a b = bytes_eq a.bytes b.bytes && (a.size == b.size)

-- A packet under an association's own tag is for it if it is from its peer's host, or if the layer below proves that the peer has sent it.
abbrev pub Admits : Source → (peer from : Peer) → Type 0
Admits Claimed peer from = peer.host ≡ from.host
Admits Proved peer from = Unit {0}

-- where the peer is, once such a packet was taken
abbrev pub followed : (peer from : Peer) → Peer
followed peer from = record { host = from.host; udp_port = from.udp_port; port = peer.port }

-- ---- laws

-- Without such a proof no association moves to another host.
abbrev pub HostsStay : Type 0
HostsStay = (peer from : Peer) → Admits Claimed peer from → (followed peer from).host ≡ peer.host

-- Hosts with other bytes are other hosts.
abbrev pub HostsAreTheirBytes : Type 0
HostsAreTheirBytes = (a b : List ℕ) → IsHost a → IsHost b → host_of a ≡ host_of b → a ≡ b

-- its host has 32 bytes
abbrev pub IsPeer : Peer → Type 0
IsPeer p = length p.host.bytes ≡ 32

-- Other peers have other texts.
abbrev pub TextsAreApart : Type 0
TextsAreApart = (p q : Peer) → IsPeer p → IsPeer q → text_of p ≡ text_of q → p ≡ q
