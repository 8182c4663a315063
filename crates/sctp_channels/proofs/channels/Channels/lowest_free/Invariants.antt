use Rattle.std.proofs.Common.{◌≡◌, ℕ, ◌-◌}
use Rattle.std.specs.Prelude.{◌&&◌}
use Rattle.sctp_model.specs.end.EndView.{EndView}
use Rattle.sctp_channels.specs.Streams.{Table, stream_at, is_own, is_free, first_from}
use Rattle.sctp_channels.specs.Calling.{both_ways}
use Rattle.sctp_channels.specs.ChannelsStand.{ChannelsStand}
use Rattle.sctp_channels.proofs.channels.Channels.lowest_free.Given as goal

-- no stream passed is free
abbrev pub invariant-loop-at : goal.invariant-loop-at
invariant-loop-at l = (v : EndView) (x : Table) → ChannelsStand l.self v x →
    first_from (λ (s : ℕ). is_own x.role s && is_free (stream_at x s)) 0 (both_ways v x)
    ≡ first_from (λ (s : ℕ). is_own x.role s && is_free (stream_at x s)) l.at (both_ways v x - l.at)
