use Rattle.std.proofs.Common.{sym, ◌∙◌}
use Rattle.sctp_model.specs.end.EndView.{StaleCookie}
use Rattle.sctp_model.specs.end.Clock.{closed}
use Rattle.sctp_model.specs.end.Acting.{Closes, SaysNothing}
use Rattle.sctp_endpoint.proofs.ClosingLemmas.{never_stale, stale_by_cause}
use Rattle.sctp_endpoint.proofs.closing.on_error.Goals as goal

pub returns-then-not-is_echoing : goal.returns-then-not-is_echoing
returns-then-not-is_echoing c = λ v stands.
    (v, SaysNothing (never_stale v.phase c.args.causes.now (sym (c.is_echoing.ensures v stands) ∙ c.if-not-is_echoing.true)), stands)

pub returns-then-not-has_stale_cookie : goal.returns-then-not-has_stale_cookie
returns-then-not-has_stale_cookie c = λ v stands. (
  v,
  SaysNothing (stale_by_cause v.phase c.args.causes.now (sym (c.is_echoing.ensures v stands) ∙ c.if-not-is_echoing.false)
      ∙ sym c.has_stale_cookie.ensures ∙ c.if-not-has_stale_cookie.true),
  stands,
)

pub returns : goal.returns
returns c = λ v stands. (
  closed StaleCookie v,
  Closes (stale_by_cause v.phase c.args.causes.now (sym (c.is_echoing.ensures v stands) ∙ c.if-not-is_echoing.false)
      ∙ sym c.has_stale_cookie.ensures ∙ c.if-not-has_stale_cookie.false),
  c.close.ensures v stands,
)
