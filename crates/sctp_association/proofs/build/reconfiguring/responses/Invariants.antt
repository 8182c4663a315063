use Rattle.std.specs.Prelude.{◌≡◌, List, ◌++◌, drop, map}
use Rattle.sctp_model.specs.wire.Typed.{Typed, WritesTyped}
use Rattle.sctp_recv.specs.Resets.{response_of}
use Rattle.sctp_association.proofs.build.reconfiguring.responses.Given as goal

-- what is written is a list, and with what is left it is all
abbrev pub invariant-loop-answer : goal.invariant-loop-answer
invariant-loop-answer l = (front : List Typed) × WritesTyped l.value.items front × (front ++ map response_of (drop l.answer-index l.answers) ≡ map response_of l.fn.answers)
