use Rattle.std.proofs.Common.{◌≡◌, ◌==◌, ℕ, List, Option, true, false, refl, sym, ap, subst, ◌∙◌, rules}
use Rattle.sctp_model.specs.end.EndView.{Configuration, Draw}
use Rattle.sctp_cookie.specs.Seals.{IsUnder}
use Rattle.sctp_packet.specs.PacketTree.{packet_meaning}
use Rattle.sctp_socket.specs.Hearing.{Finds, HeardFrom, HeardIn, place_in}
use Rattle.sctp_socket.specs.Peers.{key_of}
use Rattle.sctp_socket.specs.Routing.{Place}
use Rattle.sctp_socket.specs.SocketStands.{IsSocket, SocketStands}
use Rattle.sctp_socket.specs.SocketView.{SocketView, with_port}
use Rattle.sctp_socket.specs.declared.peer.Peer.{Peer}
use Rattle.sctp_socket.proofs.socket.Socket.hear.Goals as goal

pub returns : goal.returns
unfolding SocketStands
returns g c = λ v s stands reads under.
    let a = c.args in
    let p = packet_meaning a.packet.now in
    let from = c.new-from.result in
    let found = c.find-found.result in
    let place = c.place-place.result in
    let r = c.hear_from.result in
    let no : (a.packet.now.source == 0) ≡ false = search rules in
    let config : c.in-Ok.config ≡ with_port v.configuration from.port =
    c.in-Ok.ensures.exact.0 ∙ ap (λ (k : Configuration). with_port k a.packet.now.source) stands.configuration
    ∙ ap (λ (q : Peer). with_port v.configuration q.port) (sym c.new-from.ensures) in
    let is = c.place-place.ensures.place v s stands config in
    let fresh : place.draw ≡ a.draw = ap (λ (l : Place). l.fresh) is in
    let same : IsUnder (key_of v.master from) s = subst (λ (q : Peer). IsUnder (key_of v.master q) s) (sym c.new-from.ensures) under in
    let key : IsUnder place.key s = subst (λ (k : List ℕ). IsUnder k s) (sym (c.place-place.ensures.key v stands)) same in
    let heard = c.hear_from.ensures v s stands reads key (is ∙ ap (λ (d : Draw). place_in v s found from d) (sym fresh)) in
    let w = heard.0 in
    let there = subst (λ (l : Place). HeardIn v l found from place.draw p r w) is heard.1 in
    let done : HeardFrom v s found from a.draw p r w = subst (λ (d : Draw). HeardIn v (place_in v s found from a.draw) found from d p r w) fresh there in
    rw no (subst (λ (q : Peer). (z : SocketView) × ((f : Option ℕ) × Finds v p q a.origin.source f × HeardFrom v s f q a.draw p r z) × IsSocket g.E.SocketEnd.Stands c.hear_from.new.self z)
    c.new-from.ensures (w, (found, c.find-found.ensures v stands, done), heard.2))
