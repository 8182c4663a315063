use Rattle.std.proofs.Common.{◌≡◌, true, sym, subst}
use Rattle.std.specs.Prelude.{IfOk, OnErr}
use Rattle.sctp_model.specs.end.EndView as model
use Rattle.sctp_model.specs.end.Arriving.{is_answer}
use Rattle.sctp_model.specs.end.Strays.{body_among, chunks_verdict}
use Rattle.sctp_opening.specs.Told.{IsTold, IsToldWithin}
use Rattle.sctp_association.proofs.machine.Machine.hear_outside.Goals as goal

pub returns-clause-answer : goal.returns-clause-answer
returns-clause-answer c = λ v stands.
    let a = c.args in
    subst (λ (d : model.Draw). IfOk c.hear.result (λ told. IsTold told (body_among v a.tag a.chunks.now) (chunks_verdict v d a.tag a.chunks.now))) c.outside.ensures.drawn
    (c.hear.ensures.answer v (c.outside.ensures.answers v stands))

pub returns-clause-within : goal.returns-clause-within
returns-clause-within c = λ v stands.
    let same = (c.outside.ensures.answers v stands).at.configured in
    subst (λ (k : model.Configuration). IfOk c.hear.result (λ told. IsToldWithin k.limit told)) (sym same) c.hear.ensures.within

pub returns-clause-memory : goal.returns-clause-memory
returns-clause-memory c = λ v stands.
    let a = c.args in
    subst (λ (d : model.Draw). OnErr c.hear.result (is_answer (chunks_verdict v d a.tag a.chunks.now) ≡ true)) c.outside.ensures.drawn
    (c.hear.ensures.memory v (c.outside.ensures.answers v stands))
