use Rattle.std.proofs.Common.{◌∙◌, ap, true, sym}
use Rattle.sctp_model.specs.end.Closing.{with_due, answers_shutdown}
use Rattle.sctp_model.specs.end.EndView as model
use Rattle.sctp_model.specs.end.Acting.{ShutdownNotOpen, Crosses, Again}
use Rattle.sctp_association.specs.StageMeans.{tags_meaning, stage_meaning}
use Rattle.sctp_endpoint.proofs.RowLemmas.{shutdown_sent, ack_sent}
use Rattle.sctp_endpoint.proofs.shutdowns.on_shutdown.Goals as goal

pub returns-in_default-clause-step : goal.returns-in_default-clause-step
returns-in_default-clause-step c = λ v stands. (ShutdownNotOpen (c.in_default.ensures v stands (λ g. true)), stands)

pub returns-then-takes_acknowledgements-clause-step : goal.returns-then-takes_acknowledgements-clause-step
returns-then-takes_acknowledgements-clause-step c = λ v stands.
    c.on_counting.ensures.step v stands (c.in-Some.ensures v stands) (sym c.takes_acknowledgements.ensures ∙ c.if-takes_acknowledgements.true)

pub returns-then-takes_acknowledgements-clause-refused : goal.returns-then-takes_acknowledgements-clause-refused
returns-then-takes_acknowledgements-clause-refused c = λ v stands. c.on_counting.ensures.refused v stands (c.in-Some.ensures v stands)

pub returns-then-is_shutdown_sent-clause-step : goal.returns-then-is_shutdown_sent-clause-step
returns-then-is_shutdown_sent-clause-step c = λ v stands.
    let phase = c.in-Some.ensures v stands in
    let t = tags_meaning c.in-Some.opened.tags in
    let sent = shutdown_sent (stage_meaning c.in-Some.opened.stage) _ c.is_shutdown_sent.ensures.sent c.if-is_shutdown_sent.true in
    (answers_shutdown t v, Crosses t (phase ∙ ap (λ (g : model.Stage). model.Open t g) sent), c.answer_shutdown.ensures v _ _ stands phase)

pub returns-clause-step : goal.returns-clause-step
returns-clause-step c = λ v stands.
    let phase = c.in-Some.ensures v stands in
    let t = tags_meaning c.in-Some.opened.tags in
    let acked = ack_sent (stage_meaning c.in-Some.opened.stage) (sym c.takes_acknowledgements.ensures ∙ c.if-takes_acknowledgements.false)
    (sym c.is_shutdown_sent.ensures.sent ∙ c.if-is_shutdown_sent.false) in
    (with_due (record v.due { shutdown_ack = true }) v, Again t (phase ∙ ap (λ (g : model.Stage). model.Open t g) acked), c.repeat_shutdown_ack.ensures v stands)
