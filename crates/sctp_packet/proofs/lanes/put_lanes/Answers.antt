use Rattle.std.proofs.Common.{arith}
use Rattle.std.proofs.lemmas.Simd.{get_or-put_chunk_below, get_or-put_chunk_at, get_or-put_chunk_above}
use Rattle.sctp_packet.proofs.lanes.put_lanes.Goals as goal

pub returns-clause-here : goal.returns-clause-here
returns-clause-here c = λ k few. get_or-put_chunk_at c.args.at c.args.bytes.now c.args.value k 0 (omega (arith, few, c.fits-value.0)) (omega (arith, c.requires, c.fits-value.0))

pub returns-clause-before : goal.returns-clause-before
returns-clause-before c = λ j low. get_or-put_chunk_below c.args.at c.args.bytes.now c.args.value j 0 low

pub returns-clause-behind : goal.returns-clause-behind
returns-clause-behind c = λ j high. get_or-put_chunk_above c.args.at c.args.bytes.now c.args.value j 0 (omega (arith, high, c.fits-value.0))
