use Rattle.sctp_endpoint.specs.EndpointStands.{EndpointStands}
use Rattle.sctp_endpoint.proofs.LogLemmas.{take_logs}
use Rattle.sctp_endpoint.proofs.endpoint.Endpoint.take.Goals as goal

pub returns-clause-step : goal.returns-clause-step
unfolding EndpointStands
returns-clause-step c = c.take.ensures

pub returns-clause-logs : goal.returns-clause-logs
unfolding EndpointStands
returns-clause-logs c = λ v stands. let t = c.take.ensures v stands in take_logs c.take.result v c.args.stream t.0 _ (c.sound.ensures v stands) t.1 t.2
