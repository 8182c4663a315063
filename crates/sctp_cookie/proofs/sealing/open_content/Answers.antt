use Rattle.std.proofs.Common.{arith, ap, sym, ◌∙◌, subst, Result}
use Rattle.sctp_model.specs.end.Sealing.{Body}
use Rattle.sctp_cookie.specs.Opens.{Opened}
use Rattle.sctp_cookie.specs.CookieTree.{content_opened}
use Rattle.sctp_cookie.specs.declared.sealing.CookieFault.{CookieFault}
use Rattle.sctp_cookie.proofs.Opening.{Opened-open_answer, open_answer-Opened, stale-opens}
use Rattle.sctp_cookie.proofs.sealing.open_content.Goals as goal

pub returns-clause-meaning : goal.returns-clause-meaning
returns-clause-meaning c =
    let a = c.args in
    subst (λ (r : Result Body CookieFault). Opened a.taken a.key.now a.bytes.now a.now a.ports a.tag r) (sym c.checked_content.ensures)
    (open_answer-Opened a.taken a.key.now a.bytes.now a.now a.ports a.tag (λ i. omega (arith, c.type_inv.bytes i)))

pub returns-clause-only : goal.returns-clause-only
returns-clause-only c = λ outcome opened.
    let a = c.args in
    c.checked_content.ensures ∙ Opened-open_answer a.taken a.key.now a.bytes.now a.now a.ports a.tag (λ i. omega (arith, c.type_inv.bytes i)) outcome opened

pub returns-clause-stale : goal.returns-clause-stale
returns-clause-stale c = λ microseconds stale.
    let a = c.args in
    stale-opens a.taken a.key.now a.bytes.now a.now a.ports a.tag (λ i. omega (arith, c.type_inv.bytes i)) microseconds (sym c.checked_content.ensures ∙ ap content_opened stale)
