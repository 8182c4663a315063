use Rattle.std.proofs.Common.{◌≡◌, ◌-◌, take, length, drop, arith, ◌∙◌, ap, rules}
use Rattle.std.proofs.lemmas.Grind.{common_steps}
use Rattle.byteorder.specs.Endian.{big_number}
use Rattle.sctp_packet.specs.declared.fault.PacketFault.TheVariants.{Wire}
use Rattle.sctp_packet.specs.PacketBytes.{IsChecked}
use Rattle.sctp_packet.proofs.PacketLemmas.{all_behind, packet_parts, packet_whole, one_fault_of, never_both_of}
use Rattle.sctp_packet.proofs.read.read_packet.Goals as goal

pub returns-then-not-is_checked-clause-packet : goal.returns-then-not-is_checked-clause-packet
returns-then-not-is_checked-clause-packet c = λ p h.
    let checked = c.is_checked.ensures.1 (packet_parts c.args.bytes.now p h).checked in
    cc

pub returns-then-bytes-eq-HEADER-clause-packet : goal.returns-then-bytes-eq-HEADER-clause-packet
returns-then-bytes-eq-HEADER-clause-packet c = λ p h.
    let parts = packet_parts c.args.bytes.now p h in
    omega (arith, parts.long, c.if-bytes-eq-HEADER.true)

pub returns-in-Ok-clause-exact : goal.returns-in-Ok-clause-exact
returns-in-Ok-clause-exact c =
    let bytes = c.args.bytes.now in
    let checked : IsChecked bytes = c.is_checked.ensures.0 (search rules) in
    let body : take (length bytes - 12) (drop 12 bytes) ≡ drop 12 bytes = all_behind 12 bytes in
    let at_2 : take (length bytes - 2) (drop 2 bytes) ≡ drop 2 bytes = all_behind 2 bytes in
    let at_4 : take (length bytes - 4) (drop 4 bytes) ≡ drop 4 bytes = all_behind 4 bytes in
    packet_whole bytes _ (λ k. omega (arith, c.type_inv.bytes k)) (record { source = omega arith; destination = omega arith; tag = omega arith })
    (record {
      long = omega arith;
      checked = checked;
      source = c.read_u16.ensures;
      destination = c.read_u16-in-Ok.ensures ∙ ap (big_number 2) at_2;
      tag = c.read_u32.ensures ∙ ap (big_number 4) at_4;
      chunks = rw body at c.in-Ok.ensures.exact;
    })

pub returns-in-Ok-clause-fault : goal.returns-in-Ok-clause-fault
returns-in-Ok-clause-fault c = λ f h. never_both_of c.args.bytes.now (c.one_reading.ensures (drop 12 c.args.bytes.now)) _ f (returns-in-Ok-clause-exact c) h

pub returns-in-Err-clause-exact : goal.returns-in-Err-clause-exact
returns-in-Err-clause-exact c =
    let bytes = c.args.bytes.now in
    let checked : IsChecked bytes = c.is_checked.ensures.0 (search rules) in
    let body : take (length bytes - 12) (drop 12 bytes) ≡ drop 12 bytes = all_behind 12 bytes in
    (omega arith, checked, (c.in-Err.fault, rw body at c.in-Err.ensures.exact, c.moved_by.ensures))

pub returns-in-Err-clause-fault : goal.returns-in-Err-clause-fault
returns-in-Err-clause-fault c = λ f h. one_fault_of c.args.bytes.now (c.one_reading.ensures (drop 12 c.args.bytes.now)) (Wire c.moved_by.result) f (returns-in-Err-clause-exact c) h

pub returns-in-Err-clause-packet : goal.returns-in-Err-clause-packet
returns-in-Err-clause-packet c = grind (arith, common_steps)

pub returns-in-Ok-clause-packet : goal.returns-in-Ok-clause-packet
returns-in-Ok-clause-packet c = grind (arith, common_steps)
