use Rattle.std.proofs.Common.{◌≡◌, ℕ, ◌<◌, ◌-◌, bit_xor, length, take, drop, refl, arith, ◌∙◌, ap}
use Rattle.std.proofs.lemmas.Grind.{common_steps}
use Rattle.std.specs.Prelude.{slice_index}
use Rattle.byteorder.specs.Endian.{little_from}
use Rattle.sctp_packet.specs.Checksum.{bits}
use Rattle.sctp_packet.specs.Tables.{steps}
use Rattle.sctp_packet.proofs.StepBits.{sixteen_bits, number_behind}
use Rattle.sctp_packet.proofs.checksum.after_sixteen.Goals as goal

pub returns : goal.returns
returns c =
    let ranged : (k : ℕ) → slice_index c.args.bytes.now k < 256 = λ k. omega (arith, c.type_inv.bytes k) in
    let bytes = c.args.bytes.now in
    let all : take (length bytes - 8) (drop 8 bytes) ≡ drop 8 bytes = grind (arith, common_steps) in
    let second : c.left_alone.result ≡ steps 64 (little_from 8 8 bytes) =
    rw all at c.left_alone.ensures ∙ ap (steps 64) (number_behind 8 0 8 bytes) in
    let both : bit_xor c.left_by_eight.result c.left_alone.result ≡ bit_xor (steps 128 (bit_xor c.args.register (little_from 0 8 bytes))) (steps 64 (little_from 8 8 bytes)) =
    rw (c.left_by_eight.ensures, second) refl in
    ap (bits 32) both ∙ sixteen_bits c.args.register bytes ranged (omega arith) c.requires
