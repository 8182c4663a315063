use Rattle.std.proofs.Common.{◌≡◌, ◌-◌, length}
use Rattle.sctp_model.specs.end.EndView.{EndView}
use Rattle.sctp_channels.specs.Streams.{Table, first_from}
use Rattle.sctp_channels.specs.Buffered.{is_low}
use Rattle.sctp_channels.specs.ChannelsStand.{ChannelsStand}
use Rattle.sctp_channels.proofs.channels.Channels.first_low.Given as goal

-- none of the streams passed is the one
abbrev pub invariant-loop-stream : goal.invariant-loop-stream
invariant-loop-stream l = (v : EndView) (x : Table) → ChannelsStand l.self v x →
    first_from (is_low v x) 0 (length x.streams) ≡ first_from (is_low v x) l.stream (length x.streams - l.stream)
