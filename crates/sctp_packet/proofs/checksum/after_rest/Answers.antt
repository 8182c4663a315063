use Rattle.std.proofs.Common.{List, Bool, drop, get_or, arith, ◌∙◌, ap, sym}
use Rattle.sctp_packet.specs.Checksum.{bits, divisor}
use Rattle.sctp_packet.specs.Register.{register_after}
use Rattle.sctp_packet.proofs.ChecksumLaws.{register_after_byte}
use Rattle.sctp_packet.proofs.checksum.after_rest.Goals as goal

pub loop-byte-preserved : goal.loop-byte-preserved
loop-byte-preserved c =
    c.after_byte-stepped.ensures
    ∙ (ap (λ (x : List Bool). register_after (drop 1 divisor) x (bits 8 (get_or c.args.bytes.now c.loop-byte.byte-index 0))) c.loop-byte.invariant
    ∙ sym (register_after_byte (bits 32 c.args.register) c.args.bytes.now c.loop-byte.byte-index (omega arith)))
