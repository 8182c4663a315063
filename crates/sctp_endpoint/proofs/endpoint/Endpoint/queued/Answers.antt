use Rattle.sctp_endpoint.specs.EndpointStands.{EndpointStands}
use Rattle.sctp_endpoint.proofs.endpoint.Endpoint.queued.Goals as goal

pub returns-clause-count : goal.returns-clause-count
unfolding EndpointStands
returns-clause-count c = c.queued.ensures.count
