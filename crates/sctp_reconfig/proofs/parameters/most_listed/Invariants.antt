use Rattle.std.proofs.Common.{ℕ, ◌≤◌, map}
use Rattle.sctp_model.specs.wire.Typed.{typed_in}
use Rattle.sctp_reconfig.specs.Reading.{parameter_read, ListAtMost}
use Rattle.sctp_reconfig.proofs.parameters.most_listed.Given as goal

-- no item lists more than those before what is left list at most, if none of what is left does
abbrev pub invariant-loop-item : goal.invariant-loop-item
invariant-loop-item l = (n : ℕ) → l.most ≤ n → ListAtMost n (map parameter_read l.item-iterator) → ListAtMost n (map parameter_read (typed_in l.items))
