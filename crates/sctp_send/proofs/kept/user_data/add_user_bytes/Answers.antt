use Rattle.std.proofs.Common.{refl, arith}
use Rattle.sctp_send.proofs.kept.user_data.add_user_bytes.Goals as goal

pub returns-clause-counted : goal.returns-clause-counted
returns-clause-counted c = record {
  grown = c.args.counts.now.items;
  same = λ s. refl;
  longer = omega arith;
  reach = λ on. omega (arith, c.if-from-len.false);
  after = c.add_there.ensures;
}
