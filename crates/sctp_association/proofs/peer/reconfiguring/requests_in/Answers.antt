use Rattle.std.proofs.Common.{◌∙◌, ap, sym}
use Rattle.std.specs.List.{list_any}
use Rattle.sctp_association.specs.Reconfigured.{is_request}
use Rattle.sctp_association.proofs.ReconfigLemmas.{read_some, none_requested, again_read}
use Rattle.sctp_association.proofs.peer.reconfiguring.requests_in.Goals as goal

pub returns-in-None : goal.returns-in-None
returns-in-None c = none_requested c.args.value.now c.in-None.ensures

pub returns-then-has_request : goal.returns-then-has_request
returns-then-has_request c = again_read c.args.value.now c.read_parameters-then-has_request.result c.read_parameters-then-has_request.ensures

pub returns-else-has_request : goal.returns-else-has_request
returns-else-has_request c = ap (list_any is_request) (read_some c.args.value.now _ c.in-Some.ensures) ∙ sym c.has_request.ensures ∙ c.if-has_request.false
