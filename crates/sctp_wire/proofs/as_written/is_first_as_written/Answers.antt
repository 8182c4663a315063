use Rattle.std.proofs.Common.{arith}
use Rattle.sctp_model.proofs.TypedLemmas.{has_first}
use Rattle.sctp_wire.proofs.as_written.is_first_as_written.Goals as goal

pub length_field-size-requires : goal.length_field-size-requires
length_field-size-requires c = let first = has_first c.args.bytes.now c.requires in omega arith
