use Rattle.std.proofs.Common.{ℕ, ◌-◌, ◌≤◌, length, map}
use Rattle.sctp_chains.specs.Links.{chain_of, whole_in}
use Rattle.sctp_chains.specs.inner.Finding.{AreOpen}
use Rattle.sctp_chains.proofs.TrimLemmas.{Drops}
use Rattle.sctp_chains.proofs.letting_go.drop_each.Given as goal

abbrev pub invariant-loop-chains : goal.invariant-loop-chains
invariant-loop-chains l = record {
  drops : Drops l.upto l.at (map chain_of l.initial.chains.items) (map chain_of l.chains.items) l.fn.held l.left;
  whole : whole_in (map chain_of l.chains.items) ≤ whole_in (map chain_of l.initial.chains.items);
  fewer : length l.chains.items ≤ length l.initial.chains.items;
  passed : (k : ℕ) → AreOpen k (map chain_of l.initial.chains.items) → AreOpen (k - (length l.initial.chains.items - length l.chains.items)) (map chain_of l.chains.items);
}

abbrev pub decreases-loop-chains : goal.decreases-loop-chains
decreases-loop-chains l = length l.chains.items
