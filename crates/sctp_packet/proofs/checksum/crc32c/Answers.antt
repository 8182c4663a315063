use Rattle.std.proofs.Common.{ℕ, List, Bool, drop, arith, ◌∙◌, ap, sym, subst}
use Rattle.sctp_packet.specs.Checksum.{divisor, message_bits, IsChecksum}
use Rattle.sctp_packet.specs.Register.{register_after}
use Rattle.sctp_packet.proofs.ChecksumLaws.{ones_is, checksum_of_register, checksum_is, checksum_only}
use Rattle.sctp_packet.proofs.checksum.crc32c.Goals as goal

pub returns-clause-exact : goal.returns-clause-exact
returns-clause-exact c =
    checksum_of_register c.args.bytes.now c.after_all.result (omega arith)
    (c.after_all.ensures ∙ ap (λ (x : List Bool). register_after (drop 1 divisor) x (message_bits c.args.bytes.now)) ones_is)

pub returns-clause-checksum : goal.returns-clause-checksum
returns-clause-checksum c =
    subst (λ (sum : ℕ). IsChecksum c.args.bytes.now sum) (sym (returns-clause-exact c)) (checksum_is c.args.bytes.now)

pub returns-clause-only : goal.returns-clause-only
returns-clause-only c = λ sum h. checksum_only c.args.bytes.now sum h ∙ sym (returns-clause-exact c)
