use Rattle.std.proofs.Common.{◌≤◌, arith}
use Rattle.sctp_channels.specs.Buffered.{is_low}
use Rattle.sctp_channels.specs.Settling.{is_closed}
use Rattle.sctp_channels.specs.ChannelsStand.{ChannelsStand, endpoint_of, table_of}
use Rattle.sctp_channels.proofs.BusyLemmas.{closed_fails, low_fails, nothing_within}
use Rattle.sctp_channels.proofs.TableLemmas.{busy_of}
use Rattle.sctp_channels.proofs.channels.Channels.ahead.Goals as goal

pub returns-then-self-eq0-clause-ahead : goal.returns-then-self-eq0-clause-ahead
unfolding ChannelsStand endpoint_of table_of
returns-then-self-eq0-clause-ahead c = λ v x stands.
    let r = c.args.self.now.table.busy in
    let holds = busy_of c.args.self.now.table x stands.1 in
    let none : r.high ≤ r.low = omega (arith, c.if-self-eq0.true) in (
      nothing_within (is_closed v x) x r holds none (λ q out. closed_fails v x r q holds out),
      nothing_within (is_low v x) x r holds none (λ q out. low_fails v x r q holds out),
    )
