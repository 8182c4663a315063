use Rattle.std.proofs.Common.{ap}
use Rattle.std.specs.Prelude.{is_some}
use Rattle.sctp_model.proofs.TypedLemmas.{typed_of-nil}
use Rattle.sctp_wire.proofs.typed.TypedItems.none.Goals as goal

pub new-requires : goal.new-requires
new-requires c = ap is_some typed_of-nil
