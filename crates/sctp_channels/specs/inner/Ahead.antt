-- What is told ahead of messages.
use Rattle.std.specs.Prelude.{◌≡◌, length, None, Some}
use Rattle.sctp_model.specs.end.EndView.{EndView}
use Rattle.sctp_channels.specs.declared.ahead.Ahead.{Ahead}
use Rattle.sctp_channels.specs.declared.ahead.Ahead.TheVariants.{Nothing, Closed, Low}
use Rattle.sctp_channels.specs.Streams.{Table, first_from}
use Rattle.sctp_channels.specs.Buffered.{is_low}
use Rattle.sctp_channels.specs.Settling.{is_closed}

-- No channel is closed, and no amount is low; this channel is the first that is closed; or none is, and this amount is the first that is low.
abbrev pub IsAhead : EndView → Table → Ahead → Type 0
IsAhead v x Nothing = (None ≡ first_from (is_closed v x) 0 (length x.streams)) × (None ≡ first_from (is_low v x) 0 (length x.streams))
IsAhead v x (Closed s) = Some s ≡ first_from (is_closed v x) 0 (length x.streams)
IsAhead v x (Low s) = (None ≡ first_from (is_closed v x) 0 (length x.streams)) × (Some s ≡ first_from (is_low v x) 0 (length x.streams))
