use Rattle.std.proofs.Common.{map}
use Rattle.sctp_chains.specs.Links.{chain_of}
use Rattle.sctp_chains.specs.inner.Finding.{IsOver}
use Rattle.sctp_chains.proofs.search.stop.Given as goal

-- no chain before this one is whole, from the first place on
abbrev pub invariant-loop-at : goal.invariant-loop-at
invariant-loop-at l = IsOver (map chain_of l.chains.items) l.from l.at
