use Rattle.std.proofs.Common.{ℕ, ◌<◌, arith, ◌∙◌, ap}
use Rattle.std.specs.Prelude.{slice_index}
use Rattle.sctp_packet.specs.Checksum.{bits}
use Rattle.sctp_packet.proofs.StepBits.{header_bits}
use Rattle.sctp_packet.proofs.checksum.after_header.Goals as goal

pub returns : goal.returns
returns c =
    let ranged : (k : ℕ) → slice_index c.args.bytes.now k < 256 = λ k. omega (arith, c.type_inv.bytes k) in
    ap (bits 32) c.left_by_eight.ensures ∙ header_bits 4294967295 c.args.bytes.now ranged (omega arith) c.requires
