use Rattle.std.proofs.Common.{◌≡◌}
use Rattle.sctp_send.specs.inner.Changes.{told_where, is_between}
use Rattle.sctp_send.proofs.kept.outstanding.Outstanding.tell_each.Given as goal

-- the run that is told so far
abbrev pub invariant-loop-at : goal.invariant-loop-at
invariant-loop-at l = l.self ≡ record l.initial.self { items = told_where l.covered (is_between l.from l.at) 1 l.initial.self.items }
