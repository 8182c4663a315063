use Rattle.std.proofs.Common.{◌≡◌, ◌-◌, map, take}
use Rattle.sctp_chains.specs.Links.{bytes_of}
use Rattle.sctp_chains.specs.inner.LettingGo.{size_of_parts}
use Rattle.sctp_chains.proofs.letting_go.less_listed.Given as goal

abbrev pub invariant-loop-at : goal.invariant-loop-at
invariant-loop-at l = l.left ≡ l.fn.held - size_of_parts (map bytes_of (take l.at l.parts.items))
