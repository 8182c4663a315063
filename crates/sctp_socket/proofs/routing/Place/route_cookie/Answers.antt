use Rattle.std.proofs.Common.{ap, ◌∙◌}
use Rattle.sctp_model.specs.end.Opening.{CookieRead}
use Rattle.sctp_socket.specs.Routing.{listener_at, route_of_echo}
use Rattle.sctp_socket.proofs.ListeningLemmas.{is_there}
use Rattle.sctp_socket.proofs.routing.Place.route_cookie.Goals as goal

pub returns : goal.returns
returns c = λ s under.
    let l = c.args.self.now in
    c.route_echo.ensures
    ∙ ap (λ (k : CookieRead). route_of_echo l.standing l.draw k) (c.read_cookie-reading.ensures.read s (listener_at l.config s l.moment) under (is_there l.config s l.moment))
