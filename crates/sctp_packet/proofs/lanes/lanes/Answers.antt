use Rattle.std.proofs.lemmas.Simd.{get_or-chunk}
use Rattle.sctp_packet.proofs.lanes.lanes.Goals as goal

pub returns : goal.returns
returns c = λ k few. get_or-chunk c.args.at 16 c.args.bytes.now k 0 few
