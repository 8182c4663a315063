use Rattle.std.proofs.Common.{◌≡◌, ◌+◌, length}
use Rattle.sctp_print.proofs.words.count_items.Given as goal

-- with those that are still to come it is the number of all
abbrev pub invariant-loop-item : goal.invariant-loop-item
invariant-loop-item l = l.count + length l.item-iterator ≡ length l.initial.item-iterator
