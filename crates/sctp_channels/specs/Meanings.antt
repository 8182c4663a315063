-- What the types of this crate say, in the words of the definitions.
use Rattle.std.specs.Prelude.{ℕ, List, [], Option, None, Some}
use Rattle.sctp_recv.specs.HandedOf.{message_bytes}
use Rattle.sctp_recv.specs.declared.message.Message.{Message}
use Rattle.sctp_dcep.specs.Dcep as dcep
use Rattle.sctp_dcep.specs.Meanings.{reliability_meaning, fault_meaning}
use Rattle.sctp_channels.specs.declared.event.Event.{Event}
use Rattle.sctp_channels.specs.declared.event.Event.TheVariants as event
use Rattle.sctp_channels.specs.declared.event.Ignored.{Ignored}
use Rattle.sctp_channels.specs.declared.event.Ignored.TheVariants as ignored
use Rattle.sctp_channels.specs.declared.event.Parameters.{Parameters}
use Rattle.sctp_channels.specs.declared.event.Refusal.{Refusal}
use Rattle.sctp_channels.specs.declared.event.Refusal.TheVariants as refusal
use Rattle.sctp_channels.specs.declared.table.Table as declared
use Rattle.sctp_channels.specs.Streams.{Table}
use Rattle.sctp_channels.specs.Told as model
use Rattle.sctp_channels.specs.Told.{Told, Report}

-- the streams
abbrev pub table_meaning : declared.Table → Table
table_meaning t = record { role = t.role; next = t.next; streams = t.streams.items; thresholds = t.thresholds.items }

-- the parameters of a channel (RFC 8832, 5.1)
abbrev pub parameters_meaning : Parameters → dcep.Parameters
parameters_meaning p = record {
  label = p.label.items;
  protocol = p.protocol.items;
  ordered = p.ordered;
  reliability = reliability_meaning p.reliability;
  priority = p.priority;
}

-- why a message opens no channel
abbrev pub refusal_meaning : Refusal → model.Refusal
refusal_meaning (refusal.BadOpening fault) = model.BadOpening (fault_meaning fault)
refusal_meaning refusal.WrongHalf = model.WrongHalf
refusal_meaning refusal.NoWayBack = model.NoWayBack

-- why a message is ignored
abbrev pub ignored_meaning : Ignored → model.Reason
ignored_meaning ignored.NoChannel = model.NoChannel
ignored_meaning ignored.OpenAgain = model.OpenAgain
ignored_meaning ignored.StrayAck = model.StrayAck
ignored_meaning ignored.LateAck = model.LateAck
ignored_meaning (ignored.BadControl fault) = model.BadControl (fault_meaning fault)
ignored_meaning ignored.OtherPayload = model.OtherPayload
ignored_meaning ignored.Closing = model.OnClosing
ignored_meaning ignored.Refused = model.OnRefused

-- the bytes of a content; none if it is empty
abbrev pub content_bytes : Option Message → List ℕ
content_bytes None = []
content_bytes (Some m) = message_bytes m

-- an event
abbrev pub event_meaning : Event → Report
event_meaning (event.Incoming s p) = record { stream = s; told = model.Incoming (parameters_meaning p) }
event_meaning (event.Opened s) = record { stream = s; told = model.Opened }
event_meaning (event.Message s text m) = record { stream = s; told = model.Message (record { text = text; bytes = content_bytes m }) }
event_meaning (event.Closed s) = record { stream = s; told = model.Closed }
event_meaning (event.BufferedAmountLow s) = record { stream = s; told = model.BufferedAmountLow }
event_meaning (event.Refused s why) = record { stream = s; told = model.Refuses (refusal_meaning why) }
event_meaning (event.Ignored s why) = record { stream = s; told = model.Ignores (ignored_meaning why) }
