-- The messages that a sender keeps.
use Rattle.std.specs.Prelude.{List, map, Option, Some, option_and_then}
use Rattle.sctp_model.specs.messages.Plan.{Message}
use Rattle.sctp_model.specs.sender.SenderView.{Queued}
use Rattle.sctp_send.specs.SenderKept.{Track}

-- those that wait
abbrev pub queue_messages : List Queued → List (Option Message)
queue_messages qs = map (λ q. Some q.message) qs

-- the one in part of a stream
abbrev pub rest_message : Track → Option Message
rest_message t = option_and_then (λ r. r.message) t.rest

-- those in part
abbrev pub rest_messages : List Track → List (Option Message)
rest_messages ts = map rest_message ts
