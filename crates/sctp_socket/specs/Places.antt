-- What a packet is routed by, in code and in the definitions.
use Rattle.sctp_model.specs.end.Sealing.{Sealing}
use Rattle.sctp_socket.specs.Routing as meaning
use Rattle.sctp_socket.specs.declared.routing.Place.{Place}
use Rattle.sctp_socket.specs.declared.routing.Route.{Route}
use Rattle.sctp_socket.specs.declared.routing.Route.TheVariants as route

-- the same, with this seal of its key
abbrev pub place_meaning : Sealing → Place → meaning.Place
place_meaning s l = record { configuration = l.config; seal = s; standing = l.standing; bar = l.bar; now = l.moment; fresh = l.draw }

-- who gets it
abbrev pub route_meaning : Route → meaning.Route
route_meaning route.Nobody = meaning.Nobody
route_meaning route.ToEnd = meaning.ToEnd
route_meaning (route.ToListener d) = meaning.ToListener d
