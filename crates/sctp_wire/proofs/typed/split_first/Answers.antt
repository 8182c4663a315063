use Rattle.std.proofs.Common.{arith}
use Rattle.sctp_model.proofs.TypedLemmas.{has_first}
use Rattle.sctp_wire.proofs.typed.split_first.Goals as goal

pub length_field-size-requires : goal.length_field-size-requires
length_field-size-requires c = let first = has_first c.args.bytes.now c.requires in omega arith

pub read_u16-requires : goal.read_u16-requires
read_u16-requires c = let first = has_first c.args.bytes.now c.requires in omega arith

pub slice_bounds-item-count : goal.slice_bounds-item-count
slice_bounds-item-count c = let first = has_first c.args.bytes.now c.requires in omega arith

pub slice_bounds-item-start : goal.slice_bounds-item-start
slice_bounds-item-start c = let first = has_first c.args.bytes.now c.requires in omega arith

pub slice_bounds-item-end : goal.slice_bounds-item-end
slice_bounds-item-end c = let first = has_first c.args.bytes.now c.requires in omega arith
