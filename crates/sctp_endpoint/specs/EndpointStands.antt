-- Which state of the state machine (a view) an endpoint represents (RFC 9260, 4).
use Rattle.sctp_model.specs.end.EndView.{EndView}
use Rattle.sctp_association.specs.MachineStands.{MachineStands}
use Rattle.sctp_endpoint.specs.declared.endpoint.Endpoint.{Endpoint}

-- It represents that view. Hidden from the crates above, which know it by the clauses alone.
unfoldable pub EndpointStands : Endpoint → EndView → Type 0
EndpointStands e v = MachineStands e.machine v
