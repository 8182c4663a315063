use Rattle.std.proofs.Common.{◌≡◌, ℕ, ◌+◌, ◌<◌, ◌≤◌, length}
use Rattle.sctp_recv.specs.inner.Places.{low_at, IsTree}
use Rattle.sctp_recv.proofs.PlaceLemmas.{IsTreeBut}
use Rattle.sctp_recv.proofs.places.put.Given as goal

-- the number at the place reached may be too low for the one above it
abbrev pub invariant-loop-place : goal.invariant-loop-place
invariant-loop-place l = record {
  size : length l.places.items ≡ length l.fn.places.items;
  within : l.place < length l.fn.places.items;
  behind : l.place ≤ l.at;
  tree : length l.fn.places.items ≤ l.at + l.at → IsTree l.fn.places.items → IsTreeBut l.place l.places.items;
  here : length l.fn.places.items ≤ l.at + l.at → low_at l.places.items l.at ≡ l.low;
  others : (q : ℕ) → length l.fn.places.items ≤ q + q → (q ≡ l.at → ⊥) → low_at l.places.items q ≡ low_at l.fn.places.items q;
}

abbrev pub decreases-loop-place : goal.decreases-loop-place
decreases-loop-place l = l.place
