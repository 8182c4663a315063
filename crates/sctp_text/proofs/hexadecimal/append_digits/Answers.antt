use Rattle.std.proofs.Common.{sym, arith}
use Rattle.std.proofs.lemmas.List.{append-nil}
use Rattle.std.proofs.lemmas.Grind.{common_steps}
use Rattle.hex.specs.Hex.{encode_with, lower_digits}
use Rattle.sctp_text.proofs.WrittenLines.{encode_more}
use Rattle.sctp_text.proofs.hexadecimal.append_digits.Goals as goal

pub loop-byte-init : goal.loop-byte-init
unfolding encode_with
loop-byte-init c = sym (append-nil c.args.out.now.items)

pub loop-byte-preserved : goal.loop-byte-preserved
loop-byte-preserved c =
    let more = encode_more lower_digits c.args.bytes.now c.loop-byte.byte-index c.loop-byte-test.true in
    rw more (grind (arith, common_steps))
