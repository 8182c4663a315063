use Rattle.std.proofs.Common.{◌≡◌, ◌-◌}
use Rattle.sctp_model.specs.end.EndView.{EndView}
use Rattle.sctp_endpoint.specs.Counted.{counted}
use Rattle.sctp_channels.specs.Streams.{Table}
use Rattle.sctp_channels.specs.Events.{resets_noted}
use Rattle.sctp_channels.specs.ChannelsStand.{ChannelsStand, endpoint_of}
use Rattle.sctp_channels.proofs.channels.Channels.note_each_reset.Given as goal

-- those that are left are noted as all are, and nothing was counted
abbrev pub invariant-loop-done : goal.invariant-loop-done
invariant-loop-done l = record {
  counts : counted (endpoint_of l.self) ≡ counted (endpoint_of l.fn.self);
  step : (v : EndView) (x : Table) → ChannelsStand l.fn.self v x →
      (w : EndView) × (y : Table) × ChannelsStand l.self w y × (resets_noted (l.streams - l.done) w y ≡ resets_noted v.receiver.streams v x);
}
