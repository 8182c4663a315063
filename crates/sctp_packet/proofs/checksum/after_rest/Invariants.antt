use Rattle.std.proofs.Common.{◌≡◌, take, drop}
use Rattle.sctp_packet.specs.Checksum.{bits, divisor, message_bits}
use Rattle.sctp_packet.specs.Register.{register_after}
use Rattle.sctp_packet.proofs.checksum.after_rest.Given as goal

abbrev pub invariant-loop-byte : goal.invariant-loop-byte
invariant-loop-byte l =
    bits 32 l.stepped ≡ register_after (drop 1 divisor) (bits 32 l.register) (message_bits (take l.byte-index l.bytes))
