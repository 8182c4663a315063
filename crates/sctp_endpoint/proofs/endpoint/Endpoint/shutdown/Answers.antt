use Rattle.sctp_outcomes.proofs.logs.Called.{shutdown_keeps_logs}
use Rattle.sctp_endpoint.specs.EndpointStands.{EndpointStands}
use Rattle.sctp_endpoint.proofs.endpoint.Endpoint.shutdown.Goals as goal

pub returns-clause-logs : goal.returns-clause-logs
unfolding EndpointStands
returns-clause-logs c = λ v stands. (_, shutdown_keeps_logs v (c.sound.ensures v stands), c.shutdown.ensures.step v stands)
