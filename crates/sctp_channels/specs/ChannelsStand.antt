-- Which state of the association and of the streams channels represent.
use Rattle.std.specs.Prelude.{◌≡◌, Bool, true, length, None}
use Rattle.sctp_model.specs.end.EndView.{EndView}
use Rattle.sctp_endpoint.specs.EndpointStands.{EndpointStands}
use Rattle.sctp_endpoint.specs.declared.endpoint.Endpoint.{Endpoint}
use Rattle.sctp_channels.specs.declared.channels.Channels.{Channels}
use Rattle.sctp_channels.specs.Streams.{Table, first_from}
use Rattle.sctp_channels.specs.Buffered.{is_low}
use Rattle.sctp_channels.specs.Settling.{is_closed}
use Rattle.sctp_channels.specs.Meanings.{table_meaning}

-- the endpoint
unfoldable pub endpoint_of : Channels → Endpoint
endpoint_of c = c.endpoint

-- the streams
unfoldable pub table_of : Channels → Table
table_of c = table_meaning c.table

-- if this is noted, no channel is closed, and no buffered amount is low
abbrev pub IsCalm : (noted : Bool) → EndView → Table → Type 0
IsCalm b v x = b ≡ true → (None ≡ first_from (is_closed v x) 0 (length x.streams)) × (None ≡ first_from (is_low v x) 0 (length x.streams))

-- They represent this state of the endpoint, and these streams; and what is noted of them holds. Hidden from the crates above, which know it by the clauses alone.
unfoldable pub ChannelsStand : Channels → EndView → Table → Type 0
ChannelsStand c v x = EndpointStands (endpoint_of c) v × (table_of c ≡ x) × IsCalm c.is_calm v x
