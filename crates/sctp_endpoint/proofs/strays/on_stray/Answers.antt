use Rattle.std.proofs.Common.{inl, inr}
use Rattle.sctp_model.specs.end.Strays.{chunks_verdict}
use Rattle.sctp_cookie.specs.CookieTree.{content_meaning}
use Rattle.sctp_endpoint.proofs.OpeningLemmas.{answer_told, where_wanted}
use Rattle.sctp_endpoint.proofs.strays.on_stray.Goals as goal

pub returns-in_ok-begin-in-Begins-clause-step : goal.returns-in_ok-begin-in-Begins-clause-step
returns-in_ok-begin-in-Begins-clause-step c = λ v stands.
    (content_meaning c.in-Begins.content, rw c.in-Begins.is at c.in_ok-content.ensures.answer v stands, c.in_ok-begin-in-Begins.ensures.step v stands)

pub returns-in-Dropped-clause-step : goal.returns-in-Dropped-clause-step
returns-in-Dropped-clause-step c = λ v stands.
    let heard = rw c.in-Dropped.is at c.in_ok-content.ensures.answer v stands in
    (heard.0, heard.1, tt, stands)

pub returns-in-Answered-clause-step : goal.returns-in-Answered-clause-step
returns-in-Answered-clause-step c = λ v stands.
    let heard = rw c.in-Answered.is at c.in_ok-content.ensures.answer v stands in
    (heard.0, answer_told c.in-Answered.packet.items (chunks_verdict v c.args.draw c.args.tag c.args.chunks.now) heard.1, rw c.in-Answered.is at c.in_ok-content.ensures.within v stands, stands)

pub returns-in_err-content-clause-memory : goal.returns-in_err-content-clause-memory
returns-in_err-content-clause-memory c = λ v stands. where_wanted c.from_residual.result (inl (c.in_err-content.ensures.memory v stands))

pub returns-in_err-begin-in-Begins-clause-memory : goal.returns-in_err-begin-in-Begins-clause-memory
returns-in_err-begin-in-Begins-clause-memory c = λ v stands.
    where_wanted c.from_residual-in_err-begin-in-Begins.result (inr (content_meaning c.in-Begins.content, rw c.in-Begins.is at c.in_ok-content.ensures.answer v stands))
