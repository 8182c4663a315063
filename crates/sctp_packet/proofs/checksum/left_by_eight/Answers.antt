use Rattle.std.proofs.Common.{◌≡◌, ℕ, ◌+◌, ◌*◌, ◌<◌, bit_xor, arith, ◌∙◌, ap, sym}
use Rattle.std.specs.Prelude.{slice_index}
use Rattle.std.proofs.lemmas.Nat.{xor_of_32}
use Rattle.byteorder.specs.Endian.{little_number}
use Rattle.sctp_packet.specs.Tables.{steps}
use Rattle.sctp_packet.proofs.StepLemmas.{eight_left, eight_apart}
use Rattle.sctp_packet.proofs.EightLemmas.{eight_left_by}
use Rattle.sctp_packet.proofs.checksum.left_by_eight.Goals as goal

pub returns : goal.returns
returns c =
    let bytes = c.args.bytes.now in
    let register = c.args.register in
    let m = 8 * c.args.follow in
    let ranged : (k : ℕ) → slice_index bytes k < 256 = λ k. omega (arith, c.type_inv.bytes k) in
    let count : 8 * c.args.follow + 64 ≡ 8 + (56 + m) = omega arith in
    let p0 : 8 * c.args.follow + 8 ≡ 8 + m = omega arith in
    let p1 : 8 * (c.args.follow + 1) + 8 ≡ 8 + (8 + m) = omega arith in
    let p2 : 8 * (c.args.follow + 2) + 8 ≡ 8 + (16 + m) = omega arith in
    let p3 : 8 * (c.args.follow + 3) + 8 ≡ 8 + (24 + m) = omega arith in
    let p4 : 8 * (c.args.follow + 4) + 8 ≡ 8 + (32 + m) = omega arith in
    let p5 : 8 * (c.args.follow + 5) + 8 ≡ 8 + (40 + m) = omega arith in
    let p6 : 8 * (c.args.follow + 6) + 8 ≡ 8 + (48 + m) = omega arith in
    let p7 : 8 * (c.args.follow + 7) + 8 ≡ 8 + (56 + m) = omega arith in
    let left : bit_xor (bit_xor (bit_xor (bit_xor (bit_xor (bit_xor (bit_xor c.entry.result c.entry-2.result) c.entry-3.result) c.entry-4.result) c.entry-5.result) c.entry-6.result) c.entry-7.result) c.entry-8.result
    ≡ eight_left m (bit_xor register (little_number 8 bytes)) =
    rw (
      c.entry.ensures.steps,
      c.entry-2.ensures.steps,
      c.entry-3.ensures.steps,
      c.entry-4.ensures.steps,
      c.entry-5.ensures.steps,
      c.entry-6.ensures.steps,
      c.entry-7.ensures.steps,
      c.entry-8.ensures.steps,
      p0,
      p1,
      p2,
      p3,
      p4,
      p5,
      p6,
      p7,
      c.from.ensures,
      c.from-2.ensures,
      c.from-3.ensures,
      c.from-4.ensures,
    )
    (eight_left_by m register bytes (bit_xor register c.read_u32.result) (omega arith) ranged (ap (bit_xor register) c.read_u32.ensures)) in
    left ∙ sym (ap (λ (n : ℕ). steps n (bit_xor register (little_number 8 bytes))) count ∙ eight_apart m (bit_xor register (little_number 8 bytes)))

pub entry-requires-5-clause-byte : goal.entry-requires-5-clause-byte
entry-requires-5-clause-byte c = grind (arith, xor_of_32)
