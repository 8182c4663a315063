use Rattle.std.proofs.Common.{◌≡◌, ◌-◌, List, Bool, take, length, drop, arith, ◌∙◌, ap}
use Rattle.std.proofs.lemmas.Grind.{common_steps}
use Rattle.sctp_packet.specs.Checksum.{bits, divisor, message_bits}
use Rattle.sctp_packet.specs.Register.{register_after}
use Rattle.sctp_packet.proofs.ChecksumLaws.{register_after_parts}
use Rattle.sctp_packet.proofs.checksum.after_end.Goals as goal

pub returns : goal.returns
returns c =
    let bytes = c.args.bytes.now in
    let all : take (length bytes - 8) (drop 8 bytes) ≡ drop 8 bytes = grind (arith, common_steps) in
    let moved : register_after (drop 1 divisor) (bits 32 c.after_eight.result) (message_bits (drop 8 bytes)) ≡ register_after (drop 1 divisor) (bits 32 c.args.register) (message_bits bytes) =
    ap (λ (x : List Bool). register_after (drop 1 divisor) x (message_bits (drop 8 bytes))) c.after_eight.ensures ∙ register_after_parts (bits 32 c.args.register) bytes 8 in
    rw all at c.after_rest-2.ensures ∙ moved
