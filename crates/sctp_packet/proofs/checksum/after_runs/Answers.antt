use Rattle.std.proofs.Common.{◌≡◌, ◌-◌, ◌*◌, ◌/◌, List, Bool, take, length, drop, arith, ◌∙◌, ap}
use Rattle.std.proofs.lemmas.Grind.{common_steps}
use Rattle.sctp_packet.specs.Checksum.{bits, divisor, message_bits}
use Rattle.sctp_packet.specs.Register.{register_after}
use Rattle.sctp_packet.proofs.ChecksumLaws.{register_after_parts}
use Rattle.sctp_packet.proofs.checksum.after_runs.Goals as goal

pub loop-rest-preserved : goal.loop-rest-preserved
loop-rest-preserved c =
    let most = c.min.result / 32 * 32 in
    let rest = c.loop-rest.rest.now in
    let moved : register_after (drop 1 divisor) (bits 32 c.after_long-stepped.result) (message_bits (drop most rest)) ≡ register_after (drop 1 divisor) (bits 32 c.loop-rest.stepped) (message_bits rest) =
    ap (λ (x : List Bool). register_after (drop 1 divisor) x (message_bits (drop most rest))) c.after_long-stepped.ensures
    ∙ register_after_parts (bits 32 c.loop-rest.stepped) rest most in
    let all : take (length rest - most) (drop most rest) ≡ drop most rest = grind (arith, common_steps) in
    rw all (moved ∙ c.loop-rest.invariant)

pub returns : goal.returns
returns c = c.after_short.ensures ∙ c.loop-rest.invariant
