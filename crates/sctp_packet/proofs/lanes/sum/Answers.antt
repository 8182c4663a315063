use Rattle.std.proofs.Common.{bit_xor, arith}
use Rattle.std.proofs.lemmas.Simd.{get_or-zip2}
use Rattle.sctp_packet.proofs.lanes.sum.Goals as goal

pub returns : goal.returns
returns c = λ k few. get_or-zip2 bit_xor c.args.first c.args.second k 0 0 0 (omega (arith, few, c.fits-first.0)) (omega (arith, few, c.fits-second.0))
