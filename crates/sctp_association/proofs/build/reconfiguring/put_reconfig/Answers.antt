use Rattle.std.proofs.Common.{sym, refl, arith}
use Rattle.sctp_association.proofs.RequestLemmas.{too_long}
use Rattle.sctp_association.proofs.build.reconfiguring.put_reconfig.Goals as goal

pub returns-then-most-value-clause-answer : goal.returns-then-most-value-clause-answer
returns-then-most-value-clause-answer c = sym (too_long c.args.writer.now c.args.value.now (omega (arith, c.room.ensures.room, c.saturating_sub-most.ensures, c.if-most-value.true)))

pub try_chunk-requires : goal.try_chunk-requires
try_chunk-requires c = record {
  fields = record { kind = omega arith; other = refl; flags = omega arith };
  length = omega (arith, c.room.ensures.small, c.saturating_sub-most.ensures, c.if-most-value.false);
  plain = tt;
}
