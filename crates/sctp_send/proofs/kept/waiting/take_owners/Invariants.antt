use Rattle.std.proofs.Common.{◌≡◌, length}
use Rattle.sctp_send.specs.inner.Owning.{AreOf}
use Rattle.sctp_send.proofs.kept.waiting.take_owners.Given as goal

abbrev pub invariant-loop : goal.invariant-loop
invariant-loop l = AreOf l.message.value l.others.items × (length l.others.items ≡ l.counter)
