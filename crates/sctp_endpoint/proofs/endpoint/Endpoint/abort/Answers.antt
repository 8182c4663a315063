use Rattle.sctp_endpoint.specs.EndpointStands.{EndpointStands}
use Rattle.sctp_endpoint.specs.declared.endpoint.Endpoint.{Endpoint}
use Rattle.sctp_endpoint.proofs.LogLemmas.{abort_logs}
use Rattle.sctp_endpoint.proofs.endpoint.Endpoint.abort.Goals as goal

pub returns-clause-answer : goal.returns-clause-answer
unfolding EndpointStands
returns-clause-answer c = c.abort-answer.ensures.answer

pub returns-clause-step : goal.returns-clause-step
unfolding EndpointStands
returns-clause-step c = c.abort-answer.ensures.step

pub returns-clause-logs : goal.returns-clause-logs
unfolding EndpointStands
returns-clause-logs c = λ v stands.
    let e : Endpoint = record { machine = c.abort-answer.new.self; tally = c.abort.new.self } in
    abort_logs c.abort-answer.result v c.args.reason.now e (c.sound.ensures v stands) (c.abort-answer.ensures.step v stands)
