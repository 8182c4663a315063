use Rattle.std.proofs.Common.{◌≡◌, ℕ, List, length}
use Rattle.sctp_model.specs.receiver.ReceiverView.{Handed}
use Rattle.sctp_pair.specs.Taken.{AreLogged}
use Rattle.sctp_pair.proofs.taken.grow.Given as goal

-- there are as many logs as streams so far, and they say what those before said
abbrev pub invariant-loop-next : goal.invariant-loop-next
invariant-loop-next l = (length l.logs.items ≡ l._next) × ((taken : ℕ → List Handed) → AreLogged l.fn.logs.items taken → AreLogged l.logs.items taken)
