use Rattle.sctp_endpoint.specs.EndpointStands.{EndpointStands}
use Rattle.sctp_endpoint.specs.KeptBuffer.{kept_capacity}
use Rattle.sctp_endpoint.proofs.endpoint.Endpoint.recycle.Goals as goal

pub returns-clause-stands : goal.returns-clause-stands
unfolding EndpointStands
returns-clause-stands c = c.recycle.ensures.stands

pub returns-clause-kept : goal.returns-clause-kept
unfolding EndpointStands kept_capacity
returns-clause-kept c = c.recycle.ensures.kept

pub returns-clause-within : goal.returns-clause-within
unfolding EndpointStands kept_capacity
returns-clause-within c = c.recycle.ensures.within
