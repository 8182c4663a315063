use Rattle.std.proofs.Common.{◌≡◌, ◌+◌, ◌-◌, ◌≤◌, refl, sym, ap, arith, ◌∙◌, bit_xor}
use Rattle.std.specs.Prelude.{slice_index}
use Rattle.std.specs.Int.Bits.{xor_zero_r}
use Rattle.sctp_packet.proofs.folding.reached.Goals as goal

pub returns-then-far-zeros : goal.returns-then-far-zeros
returns-then-far-zeros c = λ k few.
    let other = slice_index c.args.others k in
    let far : c.args.far ≤ c.args.zeros = c.if-far-zeros.true in
    let none = c.requires.zeros (c.args.at + k - c.args.far) (omega (arith, far, c.requires.before)) (omega (arith, few, c.requires.far, c.requires.before, c.requires.within)) in
    sym (ap (bit_xor other) none ∙ xor_zero_r other)

pub returns : goal.returns
returns c = λ k few.
    let place : c.args.at - c.args.far + k ≡ c.args.at + k - c.args.far = omega (arith, c.requires.before) in
    c.sum.ensures k few ∙ rw (c.lanes.ensures k few, place) refl
