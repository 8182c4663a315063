use Rattle.std.proofs.Common.{refl, arith}
use Rattle.sctp_send.proofs.kept.user_data.add_bytes.Goals as goal

pub returns-clause-counted : goal.returns-clause-counted
returns-clause-counted c = record {
  grown = c.args.counts.now.items;
  same = λ s. refl;
  longer = omega arith;
  reach = λ on. absurd (cc (on, c.if-has_user_data.false, c.has_user_data.ensures));
  after = rw (← c.has_user_data.ensures, c.if-has_user_data.false) refl;
}
