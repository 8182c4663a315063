use Rattle.std.proofs.Common.{◌≤◌, length, sym, subst, arith}
use Rattle.sctp_channels.specs.Settling.{Standing}
use Rattle.sctp_channels.specs.ChannelsStand.{ChannelsStand, endpoint_of, table_of}
use Rattle.sctp_channels.proofs.BusyLemmas.{nothing_due}
use Rattle.sctp_channels.proofs.TableLemmas.{busy_of}
use Rattle.sctp_channels.proofs.SettlingLemmas.{settled_idle}
use Rattle.sctp_channels.proofs.channels.Channels.settle.Goals as goal

pub returns-then-self-eq0-clause-step : goal.returns-then-self-eq0-clause-step
unfolding ChannelsStand endpoint_of table_of
returns-then-self-eq0-clause-step c = λ v x stands.
    let r = c.args.self.now.table.busy in
    let holds = busy_of c.args.self.now.table x stands.1 in
    let none : r.high ≤ r.low = omega (arith, c.if-self-eq0.true) in
    let idle = settled_idle (length x.streams) v x (omega arith) (λ q less. nothing_due x r q holds (λ in_r. let low = in_r.0 in let high = in_r.1 in omega (arith, none, low, high))) in
    subst (λ (t : Standing). ChannelsStand c.args.self.now t.view t.table) (sym idle) stands
