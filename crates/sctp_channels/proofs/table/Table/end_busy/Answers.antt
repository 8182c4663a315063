use Rattle.std.proofs.Common.{◌≤◌, arith}
use Rattle.sctp_channels.proofs.table.Table.end_busy.Goals as goal

pub invariant_of-self : goal.invariant_of-self
invariant_of-self c =
    let old = c.args.self.now in
    let none : old.busy.high ≤ old.busy.low = omega (arith, c.if-self.true) in
    record {
      few = old.few;
      no_more = old.no_more;
      busy_fits = c.empty-self.ensures _;
      used_fits = old.used_fits;
      are_busy = λ s busy. let in_r = old.are_busy s busy in let low = in_r.0 in let high = in_r.1 in absurd (omega (arith, none, low, high));
      are_used = old.are_used;
    }
