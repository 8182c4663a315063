use Rattle.std.proofs.Common.{◌≡◌, ◌≤◌}
use Rattle.sctp_model.specs.end.EndView.{EndView}
use Rattle.sctp_channels.specs.Streams.{Table}
use Rattle.sctp_channels.specs.Events.{readable_from}
use Rattle.sctp_channels.specs.ChannelsStand.{ChannelsStand}
use Rattle.sctp_channels.proofs.channels.Channels.readable_from.Given as goal

-- no stream passed is readable
abbrev pub invariant-loop-turn : goal.invariant-loop-turn
invariant-loop-turn l = (v : EndView) (x : Table) → ChannelsStand l.self v x → (readable_from v x l.fn.from ≡ readable_from v x l.from) × (l.turn ≤ l.from)
