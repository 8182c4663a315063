use Rattle.std.proofs.Common.{◌≡◌, ◌-◌, ◌^◌, min, length, take}
use Rattle.sctp_recv.specs.Parts.{text_of_parts}
use Rattle.sctp_recv.proofs.message.len_of.Given as goal

abbrev pub invariant-loop-part : goal.invariant-loop-part
invariant-loop-part l = l.sum ≡ min (length (text_of_parts (take l.part-index l.parts))) (2 ^ 64 - 1)
