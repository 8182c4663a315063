use Rattle.std.proofs.Common.{◌∙◌, true, ap, sym, inl, inr}
use Rattle.sctp_model.specs.end.Closing.{takes_cookies, hears, with_due}
use Rattle.sctp_model.specs.end.Opening.{NotHere, EchoedAgain, IsStrange, is_ours}
use Rattle.sctp_association.specs.StageMeans.{tags_meaning, stage_meaning}
use Rattle.sctp_endpoint.proofs.opening.on_cookie_echo.Goals as goal

pub returns-in_default : goal.returns-in_default
returns-in_default c = λ v stands. (NotHere (inr (c.in_default.ensures v stands takes_cookies)), stands)

pub returns-then-not-takes_cookies : goal.returns-then-not-takes_cookies
returns-then-not-takes_cookies c = λ v stands.
    (NotHere (inr (ap (hears takes_cookies) (c.in-Some.ensures v stands) ∙ sym c.takes_cookies.ensures ∙ c.if-not-takes_cookies.true)), stands)

pub returns-in_default-read_cookie : goal.returns-in_default-read_cookie
returns-in_default-read_cookie c = λ v stands. (NotHere (inl (c.in_default-read_cookie.ensures v stands)), stands)

pub returns-then-not-is_of : goal.returns-then-not-is_of
returns-then-not-is_of c = λ v stands.
    let t = tags_meaning c.in-Some.opened.tags in
    let read = c.in-Some-read_cookie.ensures v stands in (
      IsStrange read.0 t (stage_meaning c.in-Some.opened.stage) read.1 (c.in-Some.ensures v stands) (sym c.takes_cookies.ensures ∙ c.if-not-takes_cookies.false)
          (sym (ap (is_ours t) read.2) ∙ sym c.is_of.ensures ∙ c.if-not-is_of.true),
      stands,
    )

pub returns : goal.returns
returns c = λ v stands.
    let t = tags_meaning c.in-Some.opened.tags in
    let read = c.in-Some-read_cookie.ensures v stands in (
      with_due (record v.due { cookie_ack = true }) v,
      EchoedAgain read.0 t (stage_meaning c.in-Some.opened.stage) read.1 (c.in-Some.ensures v stands) (sym c.takes_cookies.ensures ∙ c.if-not-takes_cookies.false)
          (sym (ap (is_ours t) read.2) ∙ sym c.is_of.ensures ∙ c.if-not-is_of.false),
      c.acknowledge_cookie.ensures v stands,
    )
