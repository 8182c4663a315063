-- An event is told.
use Rattle.std.specs.Prelude.{◌≡◌, Option, option_map}
use Rattle.sctp_channels.specs.declared.channels.Channels.{Channels}
use Rattle.sctp_channels.specs.declared.event.Event.{Event}
use Rattle.sctp_channels.specs.Events.{Reported}
use Rattle.sctp_channels.specs.Meanings.{event_meaning}
use Rattle.sctp_channels.specs.ChannelsStand.{ChannelsStand}

-- This is told, if anything is, and the channels stand as it leaves them.
pub record Tells (r : Reported) (event : Option Event) (c : Channels) : Type 0 where
  pub report : option_map event_meaning event ≡ r.report
  pub stands : ChannelsStand c r.view r.table
