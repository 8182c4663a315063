use Rattle.std.proofs.Common.{ap, subst, sym, ◌∙◌, Result, Ok}
use Rattle.sctp_model.specs.end.Sealing.{Body}
use Rattle.sctp_cookie.specs.CookieBody.{no_options}
use Rattle.sctp_cookie.specs.Opens.{Opened}
use Rattle.sctp_cookie.specs.declared.sealing.CookieFault.{CookieFault}
use Rattle.sctp_cookie.proofs.BodyRoundTrip.{without_options}
use Rattle.sctp_cookie.proofs.sealing.open.Goals as goal

pub returns-clause-answer : goal.returns-clause-answer
returns-clause-answer c =
    let content = c.in_ok-content.content in
    ap Ok (without_options content c.in_ok-content.ensures.meaning.0.own.made) ∙ c.in_ok-content.ensures.answer

pub returns-clause-meaning : goal.returns-clause-meaning
returns-clause-meaning c =
    let a = c.args in
    let content = c.in_ok-content.content in
    subst (λ (r : Result Body CookieFault). Opened no_options a.key.now a.bytes.now a.now a.ports a.tag r) (sym (ap Ok (without_options content c.in_ok-content.ensures.meaning.0.own.made)))
    c.in_ok-content.ensures.meaning

pub returns-clause-only : goal.returns-clause-only
returns-clause-only c = λ outcome opened.
    let content = c.in_ok-content.content in
    ap Ok (without_options content c.in_ok-content.ensures.meaning.0.own.made) ∙ c.in_ok-content.ensures.only outcome opened
