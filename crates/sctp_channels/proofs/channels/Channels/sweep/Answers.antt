use Rattle.std.proofs.Common.{◌≤◌, sym, subst, arith}
use Rattle.sctp_channels.specs.Streams.{Table}
use Rattle.sctp_channels.specs.ChannelsStand.{ChannelsStand, endpoint_of, table_of}
use Rattle.sctp_channels.proofs.BusyLemmas.{gone_fails}
use Rattle.sctp_channels.proofs.TableLemmas.{busy_of}
use Rattle.sctp_channels.proofs.SweepingLemmas.{swept_none}
use Rattle.sctp_channels.proofs.channels.Channels.sweep.Goals as goal

pub returns-then-self-eq0-clause-step : goal.returns-then-self-eq0-clause-step
unfolding ChannelsStand endpoint_of table_of
returns-then-self-eq0-clause-step c = λ v x stands.
    let r = c.args.self.now.table.busy in
    let holds = busy_of c.args.self.now.table x stands.1 in
    let none : r.high ≤ r.low = omega (arith, c.if-self-eq0.true) in
    subst (λ (t : Table). ChannelsStand c.args.self.now v t) (sym (swept_none v x (λ q. gone_fails v x r q holds (λ in_r. let low = in_r.0 in let high = in_r.1 in omega (arith, none, low, high))))) stands
