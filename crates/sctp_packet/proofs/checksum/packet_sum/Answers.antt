use Rattle.std.proofs.Common.{◌≡◌, ℕ, List, [], ◌++◌, take, drop, replicate, refl, arith, ◌∙◌, ap, append_assoc}
use Rattle.std.proofs.lemmas.List.{take-take}
use Rattle.sctp_packet.specs.Checksum.{bits, divisor, message_bits, crc32c}
use Rattle.sctp_packet.specs.Register.{register_after}
use Rattle.sctp_packet.proofs.ChecksumLaws.{checksum_of_parts}
use Rattle.sctp_packet.proofs.checksum.packet_sum.Goals as goal

pub returns : goal.returns
returns c =
    let bytes = c.args.bytes.now in
    let front = take 8 bytes ++ replicate 4 0 in
    let header = c.after_header.result in
    let head : take 8 c.split_at.result.0.now ≡ take 8 bytes = ap (take 8) c.split_at.ensures.front ∙ take-take 8 12 bytes (omega arith) in
    let behind : bits 32 c.after_all.result ≡ register_after (drop 1 divisor) (bits 32 header) (message_bits (drop 12 bytes)) =
    c.after_all.ensures ∙ ap (λ (xs : List ℕ). register_after (drop 1 divisor) (bits 32 header) (message_bits xs)) c.split_at.ensures.back in
    checksum_of_parts front [] (drop 12 bytes) header header c.after_all.result (rw head at c.after_header.ensures) refl behind (omega arith)
    ∙ ap crc32c (append_assoc (take 8 bytes) (replicate 4 0) (drop 12 bytes))
