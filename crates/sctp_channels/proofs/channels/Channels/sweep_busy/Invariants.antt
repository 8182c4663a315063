use Rattle.std.proofs.Common.{◌≡◌}
use Rattle.sctp_model.specs.end.EndView.{EndView}
use Rattle.sctp_endpoint.specs.Counted.{counted}
use Rattle.sctp_channels.specs.Streams.{Table}
use Rattle.sctp_channels.specs.Events.{swept_below}
use Rattle.sctp_channels.specs.ChannelsStand.{ChannelsStand, endpoint_of}
use Rattle.sctp_channels.proofs.channels.Channels.sweep_busy.Given as goal

-- those of the streams so far that were gone are free, and nothing was counted
abbrev pub invariant-loop-stream : goal.invariant-loop-stream
invariant-loop-stream l = record {
  counts : counted (endpoint_of l.self) ≡ counted (endpoint_of l.fn.self);
  step : (v : EndView) (x : Table) → ChannelsStand l.fn.self v x → ChannelsStand l.self v (swept_below l.stream v x);
}
