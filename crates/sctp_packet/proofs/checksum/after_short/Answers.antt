use Rattle.std.proofs.Common.{◌≡◌, ◌-◌, List, Bool, take, length, drop, ◌∙◌, ap}
use Rattle.std.proofs.lemmas.List.{drop-drop}
use Rattle.sctp_packet.specs.Checksum.{bits, divisor, message_bits}
use Rattle.sctp_packet.specs.Register.{register_after}
use Rattle.sctp_packet.proofs.ChecksumLaws.{register_after_parts}
use Rattle.sctp_packet.proofs.PacketLemmas.{all_behind}
use Rattle.sctp_packet.proofs.checksum.after_short.Goals as goal

pub loop-rest-preserved : goal.loop-rest-preserved
loop-rest-preserved c =
    let rest = c.loop-rest.rest.now in
    let half = c.after_sixteen-half.result in
    let behind : take (length rest - 16) (drop 16 rest) ≡ drop 16 rest = all_behind 16 rest in
    let all : take (length rest - 32) (drop 32 rest) ≡ drop 32 rest = all_behind 32 rest in
    let first : register_after (drop 1 divisor) (bits 32 half) (message_bits (drop 16 rest)) ≡ register_after (drop 1 divisor) (bits 32 c.loop-rest.stepped) (message_bits rest) =
    ap (λ (x : List Bool). register_after (drop 1 divisor) x (message_bits (drop 16 rest))) c.after_sixteen-half.ensures
    ∙ register_after_parts (bits 32 c.loop-rest.stepped) rest 16 in
    let second : register_after (drop 1 divisor) (bits 32 c.after_sixteen-stepped.result) (message_bits (drop 16 (drop 16 rest))) ≡ register_after (drop 1 divisor) (bits 32 half) (message_bits (drop 16 rest)) =
    ap (λ (x : List Bool). register_after (drop 1 divisor) x (message_bits (drop 16 (drop 16 rest)))) (rw behind at c.after_sixteen-stepped.ensures)
    ∙ register_after_parts (bits 32 half) (drop 16 rest) 16 in
    let twice : drop 16 (drop 16 rest) ≡ drop 32 rest = drop-drop 16 16 rest in
    rw all (rw twice at second ∙ (first ∙ c.loop-rest.invariant))

pub returns : goal.returns
returns c = c.after_few.ensures ∙ c.loop-rest.invariant
