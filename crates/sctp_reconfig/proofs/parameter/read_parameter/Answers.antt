use Rattle.std.proofs.Common.{◌≡◌, true, sym, ap, ◌∙◌}
use Rattle.sctp_model.specs.wire.Reconfig.{OUTGOING_RESET, ResetMeaning, is_parameter}
use Rattle.sctp_wire.specs.TypedTree.{item}
use Rattle.sctp_reconfig.specs.Reading.{ResetRequested}
use Rattle.sctp_reconfig.proofs.parameter.read_parameter.Goals as goal

pub returns-then-is_parameter : goal.returns-then-is_parameter
returns-then-is_parameter c =
    let chosen : is_parameter OUTGOING_RESET 12 (item c.args.kind c.args.value.now) ≡ true = sym c.is_parameter.ensures ∙ c.if-is_parameter.true in
    rw chosen (ap (λ (m : ResetMeaning). ResetRequested m) c.read_reset.ensures)
