use Rattle.std.proofs.Common.{ℕ, bit_xor, arith}
use Rattle.sctp_cookie.proofs.PadLemmas.{mapped_more}
use Rattle.sctp_cookie.proofs.hmac.xored.Goals as goal

pub loop-byte-preserved : goal.loop-byte-preserved
loop-byte-preserved c =
    mapped_more (λ (byte : ℕ). bit_xor byte c.args.pad) c.args.block.now c.loop-byte.byte-items c.loop-byte.byte-index
    (omega arith) c.loop-byte.invariant
