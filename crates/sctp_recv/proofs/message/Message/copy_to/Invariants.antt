use Rattle.std.proofs.Common.{◌≡◌, ◌≤◌, ◌++◌, length, take}
use Rattle.std.specs.Prelude.{vec_capacity}
use Rattle.sctp_recv.specs.Parts.{text_of_parts}
use Rattle.sctp_recv.proofs.message.Message.copy_to.Given as goal

abbrev pub invariant-loop-part : goal.invariant-loop-part
invariant-loop-part l = record {
  before : l.before ≡ length l.fn.out.items;
  capacity : vec_capacity l.fn.out ≤ vec_capacity l.out;
  items : l.out.items ≡ l.fn.out.items ++ text_of_parts (take l.part-index l.parts);
}
