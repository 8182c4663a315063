use Rattle.std.proofs.Common.{◌≡◌, ◌-◌, take, drop, length, ◌∙◌, ap, arith}
use Rattle.byteorder.specs.Endian.{big_number}
use Rattle.sctp_packet.proofs.PacketLemmas.{all_behind, packet_parts}
use Rattle.sctp_endpoint.proofs.PacketLemmas.{header_begins, header_of}
use Rattle.sctp_endpoint.proofs.packets.peek_packet.Goals as goal

pub returns-then-bytes-lt-HEADER-clause-packet : goal.returns-then-bytes-lt-HEADER-clause-packet
returns-then-bytes-lt-HEADER-clause-packet c = λ p reads.
    let parts = packet_parts c.args.bytes.now p reads in
    omega (arith, parts.long, c.if-bytes-lt-HEADER.true)

pub returns-clause-header : goal.returns-clause-header
returns-clause-header c =
    let bytes = c.args.bytes.now in
    let at_2 : take (length bytes - 2) (drop 2 bytes) ≡ drop 2 bytes = all_behind 2 bytes in
    let at_4 : take (length bytes - 4) (drop 4 bytes) ≡ drop 4 bytes = all_behind 4 bytes in
    header_begins _ bytes (λ k. omega (arith, c.type_inv.bytes k)) (omega (arith, c.if-bytes-lt-HEADER.false)) c.read_u16.ensures
    (c.read_u16-2.ensures ∙ ap (big_number 2) at_2) (c.read_u32.ensures ∙ ap (big_number 4) at_4)

pub returns-clause-packet : goal.returns-clause-packet
returns-clause-packet c = λ p reads.
    let bytes = c.args.bytes.now in
    let at_2 : take (length bytes - 2) (drop 2 bytes) ≡ drop 2 bytes = all_behind 2 bytes in
    let at_4 : take (length bytes - 4) (drop 4 bytes) ≡ drop 4 bytes = all_behind 4 bytes in
    header_of _ bytes p reads c.read_u16.ensures (c.read_u16-2.ensures ∙ ap (big_number 2) at_2) (c.read_u32.ensures ∙ ap (big_number 4) at_4)
