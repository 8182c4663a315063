use Rattle.std.proofs.Common.{◌≤◌, ◌+◌, ◌-◌}
use Rattle.sctp_send.specs.inner.TicketOrder.{tickets_of}
use Rattle.sctp_send.proofs.kept.HeadLemmas.{IsBetween}
use Rattle.sctp_send.proofs.kept.heads.search.Given as goal

abbrev pub invariant-loop-low : goal.invariant-loop-low
invariant-loop-low l = record { between : IsBetween (l.last + 1) l.many (tickets_of l.entries.items) l.low l.high; further : l.from ≤ l.low }

abbrev pub decreases-loop-low : goal.decreases-loop-low
decreases-loop-low l = l.high - l.low
