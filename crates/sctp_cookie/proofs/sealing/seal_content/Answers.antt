use Rattle.std.proofs.Common.{sym, ◌∙◌}
use Rattle.sctp_cookie.specs.CookieBody.{body_bytes}
use Rattle.sctp_cookie.specs.CookieTree.{content_meaning}
use Rattle.sctp_cookie.specs.Hmac.{hmac}
use Rattle.sctp_cookie.specs.Opens.{sealed}
use Rattle.sctp_cookie.proofs.BodyRoundTrip.{length-body_bytes}
use Rattle.sctp_cookie.proofs.Filling.{placed_behind}
use Rattle.sctp_cookie.proofs.Opening.{sealed-one, sealed-opens}
use Rattle.sctp_cookie.proofs.sealing.seal_content.Goals as goal

pub returns-clause-sealed : goal.returns-clause-sealed
unfolding sealed
returns-clause-sealed c =
    let body = content_meaning c.args.content.now in
    rw (c.copy_from_slice.ensures.after, c.copy_from_slice-2.ensures.after, c.hmac_sha256.ensures, c.as_bytes.ensures, c.body_bytes-body.ensures.layout)
    (placed_behind (body_bytes body) (hmac c.args.key.now (body_bytes body)) (length-body_bytes body))

pub returns-clause-opens : goal.returns-clause-opens
returns-clause-opens c = λ taken now made young.
    rw (returns-clause-sealed c) (sealed-opens taken c.args.key.now now (content_meaning c.args.content.now) c.body_bytes-body.ensures.in_range made young)

pub returns-clause-one : goal.returns-clause-one
returns-clause-one c = λ other other_in_range same.
    sealed-one c.args.key.now (content_meaning c.args.content.now) other c.body_bytes-body.ensures.in_range other_in_range (sym (returns-clause-sealed c) ∙ same)
