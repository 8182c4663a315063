use Rattle.sctp_endpoint.specs.EndpointStands.{EndpointStands}
use Rattle.sctp_endpoint.proofs.endpoint.Endpoint.queued_bytes_on.Goals as goal

pub returns-clause-bytes : goal.returns-clause-bytes
unfolding EndpointStands
returns-clause-bytes c = c.queued_bytes_on.ensures.bytes
