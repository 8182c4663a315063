use Rattle.std.proofs.Common.{◌≡◌, Ok, codes, arith}
use Rattle.std.proofs.lemmas.Grind.{common_steps}
use Rattle.hex.specs.Hex.{decode_of}
use Rattle.sctp_text.proofs.HexDigits.{AreDigitPairs, decoded, pairs_of}
use Rattle.sctp_text.proofs.hexadecimal.read_hex.Goals as goal

pub returns-then-not-are_digit_pairs : goal.returns-then-not-are_digit_pairs
returns-then-not-are_digit_pairs c =
    let other : c.args.word.now ≡ codes "-" → ⊥ = grind (arith, common_steps) in
    λ bytes is. let pairs = pairs_of _ bytes other is in grind (arith, common_steps, pairs.some, pairs.even, pairs.lower)

pub returns : goal.returns
returns c =
    let pairs : AreDigitPairs c.args.word.now = record { some = grind (arith, common_steps); even = grind (arith, common_steps); lower = grind (arith, common_steps) } in
    let ok : decode_of c.args.word.now ≡ Ok c.in_ok-bytes.bytes.items = grind (arith, common_steps) in
    rw c.new-2.ensures (decoded _ _ pairs ok)
