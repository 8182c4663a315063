use Rattle.std.specs.Prelude.{◌≡◌, drop}
use Rattle.sctp_model.specs.sender.Outgoing.{are_listed}
use Rattle.sctp_send.proofs.resetting.naming.are_listed.Given as goal

-- those before what is left are the same
abbrev pub invariant-loop-stream : goal.invariant-loop-stream
invariant-loop-stream l = are_listed l.fn.streams l.fn.others ≡ are_listed (drop l.stream-index l.streams) l.left.rest.now
