use Rattle.std.proofs.Common.{◌≡◌, ℕ, ◌+◌, refl, arith, ◌∙◌, bit_xor}
use Rattle.std.specs.Prelude.{slice_index}
use Rattle.sctp_packet.specs.Folding.{reaching}
use Rattle.sctp_packet.proofs.BlockLemmas.{two_parts}
use Rattle.sctp_packet.proofs.folding.set_block.Goals as goal

pub returns-clause-set : goal.returns-clause-set
returns-clause-set c =
    let f : ℕ → ℕ = λ k. bit_xor (slice_index c.args.bytes.now k) (reaching c.args.before.now (c.args.at + k)) in
    two_parts c.put_lanes-2.new.bytes f
    (λ j few.
    let place : c.args.at + (0 + j) ≡ c.args.at + j = omega arith in
    c.put_lanes-2.ensures.before (0 + j) (omega (arith, few)) ∙ (c.put_lanes.ensures.here j few ∙ (c.sum-first.ensures j few ∙ rw (c.lanes.ensures j few, c.reaching.ensures j few, place) refl)))
    (λ j few.
    let place : c.args.at + (16 + j) ≡ c.args.at + 16 + j = omega arith in
    c.put_lanes-2.ensures.here j few ∙ (c.sum-second.ensures j few ∙ rw (c.lanes-2.ensures j few, c.reaching-2.ensures j few, place) refl))
