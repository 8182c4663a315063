use Rattle.std.proofs.Common.{true, false}
use Rattle.sctp_send.specs.SenderAnswers.{lane_for}
use Rattle.sctp_association.specs.CallAnswers.{call_with}
use Rattle.sctp_association.proofs.CallLemmas.{hears_not, heard, send_by, ticket_for}
use Rattle.sctp_association.proofs.machine.Machine.accept.Goals as goal

pub returns-in_default-clause-answer : goal.returns-in_default-clause-answer
returns-in_default-clause-answer c = λ v stands. send_by v (call_with (lane_for c.args.stream c.args.ordered) c.args.payload_id c.args.bytes.items c.args.until c.args.limit) false (hears_not v.phase (c.in_default.ensures v stands (λ g. true)))

pub returns-in_default-clause-step : goal.returns-in_default-clause-step
returns-in_default-clause-step c = λ v stands. stands

pub returns-then-not-is_established-clause-answer : goal.returns-then-not-is_established-clause-answer
returns-then-not-is_established-clause-answer c = λ v stands.
    send_by v (call_with (lane_for c.args.stream c.args.ordered) c.args.payload_id c.args.bytes.items c.args.until c.args.limit) false
    (heard v.phase _ _ false c.is_established.result (c.in-Some.ensures v stands) c.is_established.ensures.established c.if-not-is_established.true)

pub returns-then-not-is_established-clause-step : goal.returns-then-not-is_established-clause-step
returns-then-not-is_established-clause-step c = λ v stands. stands

pub returns-in-Ok-clause-answer : goal.returns-in-Ok-clause-answer
returns-in-Ok-clause-answer c = λ v stands.
    let q = c.in-Ok.ensures.answer v stands in
    ticket_for v (call_with (lane_for c.args.stream c.args.ordered) c.args.payload_id c.args.bytes.items c.args.until c.args.limit) _
    (heard v.phase _ _ true c.is_established.result (c.in-Some.ensures v stands) c.is_established.ensures.established c.if-not-is_established.false) q.0 q.1

pub returns-in-Err-clause-answer : goal.returns-in-Err-clause-answer
returns-in-Err-clause-answer c = λ v stands.
    (heard v.phase _ _ true c.is_established.result (c.in-Some.ensures v stands) c.is_established.ensures.established c.if-not-is_established.false, c.in-Err.ensures.answer v stands)
