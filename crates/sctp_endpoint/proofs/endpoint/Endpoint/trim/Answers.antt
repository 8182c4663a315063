use Rattle.sctp_endpoint.specs.EndpointStands.{EndpointStands}
use Rattle.sctp_endpoint.proofs.endpoint.Endpoint.trim.Goals as goal

pub returns-clause-stands : goal.returns-clause-stands
unfolding EndpointStands
returns-clause-stands c = c.trim.ensures
