use Rattle.sctp_send.proofs.fill.OwnerLemmas.{IsPushed}
use Rattle.sctp_send.proofs.fill.others.enter_others.Given as goal

abbrev pub invariant-loop-fragment : goal.invariant-loop-fragment
invariant-loop-fragment l = IsPushed l.fn.stock l.stock l.fn.others.items l.owners.items l.number l.fragment
