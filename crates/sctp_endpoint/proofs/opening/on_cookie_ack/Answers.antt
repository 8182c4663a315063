use Rattle.std.proofs.Common.{◌∙◌, sym}
use Rattle.sctp_model.specs.end.Opening.{acknowledged_echo, NotEchoing, CookieAcked}
use Rattle.sctp_endpoint.proofs.OpeningLemmas.{echoing_there}
use Rattle.sctp_endpoint.proofs.opening.on_cookie_ack.Goals as goal

pub returns-then-not-is_echoing : goal.returns-then-not-is_echoing
returns-then-not-is_echoing c = λ v stands. (NotEchoing (sym (c.is_echoing.ensures v stands) ∙ c.if-not-is_echoing.true), stands)

pub returns : goal.returns
returns c = λ v stands.
    let at = echoing_there v.phase (sym (c.is_echoing.ensures v stands) ∙ c.if-not-is_echoing.false) in
    (acknowledged_echo at.0 v, CookieAcked at.0 at.1 at.2, c.establish.ensures v at.0 at.1 stands at.2)
