use Rattle.std.proofs.Common.{◌≡◌, ◌-◌, ℕ, suc, inl, inr, subst, arith}
use Rattle.sctp_pair.specs.Sides.{IsItem}
use Rattle.sctp_pair.proofs.BagLemmas.{bag_length, bag_there, item_outside}
use Rattle.sctp_pair.proofs.arrivals.packet_at.Goals as goal
use Rattle.sctp_pair.proofs.arrivals.packet_at.Goals.{then-index-eq0-via-then-index-eq0, then-index-eq0-via-else-index-eq0+then-index-bag}

pub returns-then-index-eq0 : goal.returns-then-index-eq0
returns-then-index-eq0 c = λ ps packets.
    let same = bag_length _ _ packets in
    elim c.then-index-eq0.branch [
      | then-index-eq0-via-then-index-eq0 b ↦ item_outside ps c.args.number (inl (omega arith))
      | then-index-eq0-via-else-index-eq0+then-index-bag b ↦ item_outside ps c.args.number (inr (omega (arith, same)))
    ]

pub returns : goal.returns
returns c = λ ps packets.
    let there = bag_there c.args.bag.now ps (c.args.number - 1) c.index-bag-index.result packets (omega arith) c.index-bag-index.is in
    let n : suc (c.args.number - 1) ≡ c.args.number = omega arith in
    rw c.as_slice.ensures.value (subst (λ (k : ℕ). IsItem ps k c.index-bag-index.result.items) n there)
