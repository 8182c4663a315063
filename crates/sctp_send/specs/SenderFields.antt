-- What a sender's fields hold.
use Rattle.std.specs.Prelude.{ℕ, ◌-◌, Option, None, Some}
use Rattle.std.specs.declared.sync.Arc.{Arc}
use Rattle.std.specs.declared.alloc.Global.{Global}
use Rattle.sctp_model.specs.messages.Format.{Kind, Ordered, Unordered}
use Rattle.sctp_model.specs.messages.Plan.{Part}
use Rattle.sctp_model.specs.sender.SenderView.{Queued}
use Rattle.sctp_values.specs.Meanings.{kind_meaning}
use Rattle.sctp_send.specs.SenderKept.{Rest, Track}
use Rattle.sctp_send.specs.OutstandingFields.{lane_meaning, message_meaning, queued_meaning}
use Rattle.sctp_send.specs.declared.kept.message.Message.{Message as MessageFields}
use Rattle.sctp_send.specs.declared.kept.track.Ending.{Ending as EndingFields}
use Rattle.sctp_send.specs.declared.kept.track.Rest.{Rest as RestFields}
use Rattle.sctp_send.specs.declared.kept.track.Track.{Track as TrackFields}

-- a message that waits
abbrev pub queued_by : ℕ → Arc MessageFields Global → Queued
queued_by size m = queued_meaning size m.value

-- of so many ordered and so many unordered messages that have a number, the number of the latest of a kind
abbrev pub latest : Kind → (ordered unordered : ℕ) → ℕ
latest Ordered ordered unordered = ordered - 1
latest Unordered ordered unordered = unordered - 1

-- the number that the latest message of a kind took on a stream
abbrev pub latest_in : Kind → Track → ℕ
latest_in k t = latest k t.ordered t.unordered

-- the number of a message in part: it is the latest of its kind on its stream
abbrev pub number_left : Track → RestFields → ℕ
number_left t r = latest_in (kind_meaning r.message.value.kind) t

-- what is left of a message in part, where a stream has such counts: its next fragment, and the message
abbrev pub rest_meaning : ℕ → Track → RestFields → Rest
rest_meaning size t r = record { entry = Part (lane_meaning r.message.value) (number_left t r) r.fragment; message = Some (message_meaning size r.message.value) }

-- the same, where a stream has one
abbrev pub rests_meaning : ℕ → Track → Option RestFields → Option Rest
rests_meaning size t None = None
rests_meaning size t (Some r) = Some (rest_meaning size t r)

-- how many messages of each kind have a number on a stream
abbrev pub counts_meaning : TrackFields → Track
counts_meaning t = record { ordered = t.ordered; unordered = t.unordered; rest = None }

-- what is kept of a stream
abbrev pub track_meaning : ℕ → TrackFields → Track
track_meaning size t = record { ordered = t.ordered; unordered = t.unordered; rest = rests_meaning size (counts_meaning t) t.rest }

-- a message in part that ends: its next fragment, and the message
abbrev pub ending_meaning : ℕ → EndingFields → Rest
ending_meaning size e = record { entry = Part (lane_meaning e.rest.message.value) e.number e.rest.fragment; message = Some (message_meaning size e.rest.message.value) }

-- the same, where there is one
abbrev pub endings_meaning : ℕ → Option EndingFields → Option Rest
endings_meaning size None = None
endings_meaning size (Some e) = Some (ending_meaning size e)
