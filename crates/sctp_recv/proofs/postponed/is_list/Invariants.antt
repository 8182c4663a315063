use Rattle.std.specs.Prelude.{◌≡◌, drop}
use Rattle.sctp_model.specs.sender.Outgoing.{are_listed}
use Rattle.sctp_recv.proofs.postponed.is_list.Given as goal

-- those before what is left are the same
abbrev pub invariant-loop-stream : goal.invariant-loop-stream
invariant-loop-stream l = are_listed l.fn.known l.fn.named ≡ are_listed (drop l.stream-index l.known) l.others
