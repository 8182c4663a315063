use Rattle.sctp_endpoint.specs.EndpointStands.{EndpointStands}
use Rattle.sctp_endpoint.proofs.endpoint.Endpoint.peer_window.Goals as goal

pub returns : goal.returns
unfolding EndpointStands
returns c = c.peer_window.ensures
