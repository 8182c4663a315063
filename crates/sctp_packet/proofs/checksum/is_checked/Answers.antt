use Rattle.std.proofs.Common.{◌≡◌, ◌-◌, take, length, drop, arith, ◌∙◌, ap, sym, eq-eqb}
use Rattle.std.proofs.lemmas.Grind.{common_steps}
use Rattle.std.proofs.lemmas.Bool.{eqb-true}
use Rattle.byteorder.specs.Endian.{little_number}
use Rattle.sctp_packet.proofs.checksum.is_checked.Goals as goal

pub returns : goal.returns
returns c =
    let bytes = c.args.bytes.now in
    let field : take (length bytes - 8) (drop 8 bytes) ≡ drop 8 bytes = grind (arith, common_steps) in
    let same : c.read_u32.result ≡ little_number 4 (drop 8 bytes) = c.read_u32.ensures ∙ ap (little_number 4) field in
    (λ t. sym same ∙ (eqb-true c.read_u32.result c.packet_sum.result t ∙ c.packet_sum.ensures), λ e. eq-eqb c.read_u32.result c.packet_sum.result (same ∙ (e ∙ sym c.packet_sum.ensures)))
