use Rattle.std.proofs.Common.{◌≡◌, bit_xor, arith, ◌∙◌, ap, ◌/◌, ◌%◌, ◌^◌}
use Rattle.sctp_packet.specs.Checksum.{bits}
use Rattle.sctp_packet.specs.Tables.{steps}
use Rattle.sctp_packet.proofs.StepLemmas.{byte_left}
use Rattle.sctp_packet.proofs.StepBits.{byte_bits}
use Rattle.sctp_packet.proofs.checksum.after_byte.Goals as goal

pub returns : goal.returns
returns c =
    let mixed = bit_xor c.args.register c.args.byte in
    let left : bit_xor (bit_xor c.args.register c.from.result / 256) c.entry.result ≡ bit_xor (mixed / 2 ^ 8) (steps 8 (mixed % 256)) = cc in
    ap (bits 32) (left ∙ byte_left mixed) ∙ byte_bits c.args.register c.args.byte (omega arith) (omega arith)
