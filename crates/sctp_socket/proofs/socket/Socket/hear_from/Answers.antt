use Rattle.std.proofs.Common.{◌≡◌, refl, sym, ap, ◌∙◌}
use Rattle.sctp_socket.specs.Places.{place_meaning, route_meaning}
use Rattle.sctp_socket.specs.Routing.{Nobody, ToEnd, ToListener, routed}
use Rattle.sctp_socket.proofs.socket.Socket.hear_from.Goals as goal

pub returns-in-Nobody : goal.returns-in-Nobody
returns-in-Nobody g c = λ v s stands reads under is.
    let a = c.args in
    let route : routed (place_meaning s a.place.now) a.packet.now.tag a.packet.now.chunks ≡ Nobody = sym (c.route.ensures s under) ∙ ap route_meaning c.in-Nobody.is in
    rw route (v, (refl, refl), stands)

pub returns-in-ToEnd : goal.returns-in-ToEnd
returns-in-ToEnd g c = λ v s stands reads under is.
    let a = c.args in
    let route : routed (place_meaning s a.place.now) a.packet.now.tag a.packet.now.chunks ≡ ToEnd = sym (c.route.ensures s under) ∙ ap route_meaning c.in-ToEnd.is in
    rw route (c.end_hears.ensures v _ stands reads)

pub returns-in-ToListener : goal.returns-in-ToListener
returns-in-ToListener g c = λ v s stands reads under is.
    let a = c.args in
    let route : routed (place_meaning s a.place.now) a.packet.now.tag a.packet.now.chunks ≡ ToListener c.in-ToListener.own = sym (c.route.ensures s under) ∙ ap route_meaning c.in-ToListener.is in
    rw route (c.listen.ensures v s stands reads under is)
