use Rattle.sctp_endpoint.specs.EndpointStands.{EndpointStands}
use Rattle.sctp_endpoint.specs.declared.endpoint.Endpoint.{Endpoint}
use Rattle.sctp_endpoint.proofs.LogLemmas.{reset_logs}
use Rattle.sctp_endpoint.proofs.endpoint.Endpoint.reset.Goals as goal

pub returns-clause-answer : goal.returns-clause-answer
unfolding EndpointStands
returns-clause-answer c = c.reset.ensures.answer

pub returns-clause-step : goal.returns-clause-step
unfolding EndpointStands
returns-clause-step c = c.reset.ensures.step

pub returns-clause-logs : goal.returns-clause-logs
unfolding EndpointStands
returns-clause-logs c = λ v stands.
    let e : Endpoint = record { machine = c.reset.new.self; tally = c.args.self.now.tally } in
    reset_logs c.reset.result v c.args.stream e (c.sound.ensures v stands) (c.reset.ensures.answer v stands) (c.reset.ensures.step v stands)
