-- Peers, their hosts and their texts: other ones are other ones.
use Rattle.std.proofs.Common.{◌≡◌, ℕ, ◌-◌, ◌/◌, ◌%◌, Bool, true, false, ◌&&◌, ◌==◌, List, [], ◌∷◌, ◌++◌, length, replicate, take, drop, refl, sym, ap, subst, arith, ◌∙◌}
use Rattle.std.proofs.lemmas.List.{take_at, drop_at}
use Rattle.std.specs.Bool.{Decides}
use Rattle.std.specs.Str.{bytes_eq}
use Rattle.std.proofs.lemmas.Bool.Decides.{Decides-eqb}
use Rattle.std.proofs.lemmas.Slice.Eq.{bytes_eq-Decides}
use Rattle.sctp_socket.specs.declared.peer.Host.{Host}
use Rattle.sctp_socket.specs.declared.peer.Peer.{Peer}
use Rattle.sctp_socket.specs.Peers.{is_same_host, HostsAreTheirBytes, HostsStay, TextsAreApart}

pub hosts_are_their_bytes : HostsAreTheirBytes
hosts_are_their_bytes a b fits others same =
    let sizes : length a ≡ length b = ap (λ (h : Host). h.size) same in
    let filled : a ++ replicate (32 - length a) 0 ≡ b ++ replicate (32 - length b) 0 = ap (λ (h : Host). h.bytes) same in
    sym (take_at a (replicate (32 - length a) 0) (length a) refl) ∙ (ap (λ (xs : List ℕ). take (length a) xs) filled ∙ take_at b (replicate (32 - length b) 0) (length a) (sym sizes))

-- a number, by its two halves
halves : (u v : ℕ) → u / 256 ≡ v / 256 → u % 256 ≡ v % 256 → u ≡ v
halves u v high low = omega (arith, high, low)

-- what follows the host's bytes
abbrev tail_of : Peer → List ℕ
tail_of p = p.host.size ∷ p.udp_port / 256 ∷ p.udp_port % 256 ∷ p.port / 256 ∷ p.port % 256 ∷ []

-- the first of some numbers
abbrev first : List ℕ → ℕ
first [] = 0
first (x ∷ xs) = x

-- the number at a place of a list that two share
at : (n : ℕ) (xs ys : List ℕ) → xs ≡ ys → first (drop n xs) ≡ first (drop n ys)
at n xs ys same = ap (λ (zs : List ℕ). first (drop n zs)) same

same_host : (a b : Host) → a.bytes ≡ b.bytes → a.size ≡ b.size → a ≡ b
same_host a b bytes sizes =
    let one : a ≡ record { bytes = b.bytes; size = a.size } = ap (λ (xs : List ℕ). record { bytes = xs; size = a.size }) bytes in
    one ∙ ap (λ (n : ℕ). record { bytes = b.bytes; size = n }) sizes

same_peer : (p q : Peer) → p.host ≡ q.host → p.udp_port ≡ q.udp_port → p.port ≡ q.port → p ≡ q
same_peer p q hosts udp_ports ports =
    let one : p ≡ record { host = q.host; udp_port = p.udp_port; port = p.port } = ap (λ (h : Host). record { host = h; udp_port = p.udp_port; port = p.port }) hosts in
    let two : record { host = q.host; udp_port = p.udp_port; port = p.port } ≡ record { host = q.host; udp_port = q.udp_port; port = p.port }
    = ap (λ (n : ℕ). record { host = q.host; udp_port = n; port = p.port }) udp_ports in
    one ∙ (two ∙ ap (λ (n : ℕ). record { host = q.host; udp_port = q.udp_port; port = n }) ports)

by_tails : (p q : Peer) → p.host.bytes ≡ q.host.bytes → tail_of p ≡ tail_of q → p ≡ q
by_tails p q bytes tails =
    same_peer p q (same_host p.host q.host bytes (at 0 (tail_of p) (tail_of q) tails))
    (halves p.udp_port q.udp_port (at 1 (tail_of p) (tail_of q) tails) (at 2 (tail_of p) (tail_of q) tails))
    (halves p.port q.port (at 3 (tail_of p) (tail_of q) tails) (at 4 (tail_of p) (tail_of q) tails))

pub texts_are_apart : TextsAreApart
texts_are_apart p q one other same =
    by_tails p q
    (sym (take_at p.host.bytes (tail_of p) 32 one) ∙ (ap (λ (xs : List ℕ). take 32 xs) same ∙ take_at q.host.bytes (tail_of q) 32 other))
    (sym (drop_at p.host.bytes (tail_of p) 32 one) ∙ (ap (λ (xs : List ℕ). drop 32 xs) same ∙ drop_at q.host.bytes (tail_of q) 32 other))

both : (x y : Bool) → (x && y) ≡ true → (x ≡ true) × (y ≡ true)
both true y h = (refl, h)
both false y h = absurd (cc)

same_itself : (a : Host) → is_same_host a a ≡ true
same_itself a = rw ((bytes_eq-Decides a.bytes a.bytes).1 refl, (Decides-eqb a.size a.size).1 refl) refl

pub same_decides : (a b : Host) → Decides (is_same_host a b) (a ≡ b)
same_decides a b = (
  λ yes. let h = both (bytes_eq a.bytes b.bytes) (a.size == b.size) yes in
      same_host a b ((bytes_eq-Decides a.bytes b.bytes).0 h.0) ((Decides-eqb a.size b.size).0 h.1),
  λ same. subst (λ (x : Host). is_same_host a x ≡ true) same (same_itself a),
)

pub hosts_stay : HostsStay
hosts_stay peer from admitted = sym admitted
