use Rattle.sctp_endpoint.specs.EndpointStands.{EndpointStands}
use Rattle.sctp_endpoint.proofs.endpoint.Endpoint.is_resetting.Goals as goal

pub returns : goal.returns
unfolding EndpointStands
returns c = c.is_resetting.ensures
