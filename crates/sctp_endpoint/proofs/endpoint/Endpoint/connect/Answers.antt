use Rattle.sctp_endpoint.specs.EndpointStands.{EndpointStands}
use Rattle.sctp_endpoint.specs.declared.endpoint.Endpoint.{Endpoint}
use Rattle.sctp_endpoint.proofs.LogLemmas.{connect_logs}
use Rattle.sctp_endpoint.proofs.endpoint.Endpoint.connect.Goals as goal

pub returns-clause-step : goal.returns-clause-step
unfolding EndpointStands
returns-clause-step c = c.connect.ensures.step

pub returns-clause-logs : goal.returns-clause-logs
unfolding EndpointStands
returns-clause-logs c = λ v stands.
    let e : Endpoint = record { machine = c.connect.new.self; tally = c.args.self.now.tally } in
    connect_logs c.connect.result v c.args.now c.args.draw e (c.sound.ensures v stands) (c.connect.ensures.answer v stands) (c.connect.ensures.step v stands)
