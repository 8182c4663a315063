use Rattle.std.proofs.Common.{◌≡◌, ℕ, ◌+◌, ◌≤◌, List, length, sym, subst, arith}
use Rattle.sctp_recv.specs.inner.Places.{low_at, IsTree}
use Rattle.sctp_recv.proofs.PlaceLemmas.{from_top}
use Rattle.sctp_recv.proofs.places.Lows.upto.Goals as goal

pub returns : goal.returns
returns c = λ s marked.
    let lows = c.args.self.now in
    let same = sym c.deref.ensures.value in
    let path = from_top (lows.count + s) (omega (arith, c.args.self.now.size, marked.0)) in
    c.in_ok-gather.ensures.found path.0 s (subst IsTree same lows.tree) (subst (λ (xs : List ℕ). length xs ≡ lows.count + lows.count) same lows.size) (omega arith) path.1 marked.0
    (subst (λ (xs : List ℕ). low_at xs (lows.count + s) ≤ c.args.index) same marked.1)
