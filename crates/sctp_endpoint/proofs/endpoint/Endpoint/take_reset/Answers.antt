use Rattle.sctp_endpoint.specs.EndpointStands.{EndpointStands}
use Rattle.sctp_endpoint.specs.declared.endpoint.Endpoint.{Endpoint}
use Rattle.sctp_endpoint.proofs.LogLemmas.{told_logs}
use Rattle.sctp_endpoint.proofs.endpoint.Endpoint.take_reset.Goals as goal

pub returns-clause-answer : goal.returns-clause-answer
unfolding EndpointStands
returns-clause-answer c = c.take_reset.ensures.answer

pub returns-clause-step : goal.returns-clause-step
unfolding EndpointStands
returns-clause-step c = c.take_reset.ensures.step

pub returns-clause-logs : goal.returns-clause-logs
unfolding EndpointStands
returns-clause-logs c = λ v stands.
    let e : Endpoint = record { machine = c.take_reset.new.self; tally = c.args.self.now.tally } in
    told_logs c.take_reset.result v e (c.sound.ensures v stands) (c.take_reset.ensures.answer v stands) (c.take_reset.ensures.step v stands)
