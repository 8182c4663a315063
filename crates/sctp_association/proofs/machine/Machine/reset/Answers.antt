use Rattle.sctp_model.specs.end.Closing.{hears}
use Rattle.sctp_model.specs.end.UserCalls.{is_established}
use Rattle.sctp_association.proofs.ResetLemmas.{reset_refused, reset_missing, reset_begins, agreed_then}
use Rattle.sctp_association.proofs.machine.Machine.reset.Goals as goal

pub returns-then-not-may_reset-clause-answer : goal.returns-then-not-may_reset-clause-answer
returns-then-not-may_reset-clause-answer c = λ v stands. reset_refused v c.args.stream c.may_reset.result (c.may_reset.ensures v stands) c.if-not-may_reset.true

pub returns-then-not-may_reset-clause-step : goal.returns-then-not-may_reset-clause-step
returns-then-not-may_reset-clause-step c = λ v stands. stands

pub returns-then-outgoing-stream-clause-answer : goal.returns-then-outgoing-stream-clause-answer
returns-then-outgoing-stream-clause-answer c = λ v stands.
    reset_missing v c.args.stream c.outgoing.result c.may_reset.result (c.may_reset.ensures v stands) c.if-not-may_reset.false (c.outgoing.ensures v stands) c.if-outgoing-stream.true

pub returns-then-outgoing-stream-clause-step : goal.returns-then-outgoing-stream-clause-step
returns-then-outgoing-stream-clause-step c = λ v stands. stands

pub returns-in-Ok-clause-answer : goal.returns-in-Ok-clause-answer
returns-in-Ok-clause-answer c = λ v stands.
    reset_begins v c.args.stream c.outgoing.result c.may_reset.result (c.may_reset.ensures v stands) c.if-not-may_reset.false (c.outgoing.ensures v stands) c.if-outgoing-stream.false

pub returns-in-Ok-clause-step : goal.returns-in-Ok-clause-step
returns-in-Ok-clause-step c = λ v stands.
    c.in-Ok.ensures.step v stands (agreed_then v.terms.reset (hears is_established v.phase) c.may_reset.result (c.may_reset.ensures v stands) c.if-not-may_reset.false)

pub returns-in-Err-clause-answer : goal.returns-in-Err-clause-answer
returns-in-Err-clause-answer c = λ v stands.
    reset_begins v c.args.stream c.outgoing.result c.may_reset.result (c.may_reset.ensures v stands) c.if-not-may_reset.false (c.outgoing.ensures v stands) c.if-outgoing-stream.false

pub returns-in-Err-clause-step : goal.returns-in-Err-clause-step
returns-in-Err-clause-step c = λ v stands. c.in-Err.ensures.refused v stands
