use Rattle.std.proofs.Common.{arith}
use Rattle.sctp_end.proofs.SessionLemmas.{is_read}
use Rattle.sctp_end.proofs.session.reads_or_faults.Goals as goal

pub returns : goal.returns
returns c = is_read c.args.bytes.now (c.one_packet.ensures c.args.bytes.now) (λ i. omega (arith, c.type_inv.bytes i))
