use Rattle.std.proofs.Common.{◌≡◌}
use Rattle.std.specs.List.{list_any}
use Rattle.sctp_association.specs.Reconfigured.{is_request}
use Rattle.sctp_association.proofs.peer.reconfiguring.has_request.Given as goal

-- those before what is left are no requests
abbrev pub invariant-loop-parameter : goal.invariant-loop-parameter
invariant-loop-parameter l = list_any is_request l.parameter-iterator ≡ list_any is_request l.fn.parameters
