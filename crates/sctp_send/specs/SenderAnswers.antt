-- What the calls of a sender answer, in terms of a view that it stands for, and the view that they leave.
use Rattle.std.specs.Prelude.{◌≡◌, ℕ, suc, nat_lt, ◌==◌, Bool, not, ◌&&◌, List, length, count_by, Option, None, Some, Result, Ok, Err}
use Rattle.std.specs.List.{list_any}
use Rattle.sctp_model.specs.messages.Format.{Lane}
use Rattle.sctp_model.specs.messages.Framing.{lane_kind}
use Rattle.sctp_model.specs.sender.SenderView.{SenderView}
use Rattle.sctp_model.specs.sender.Words.{lowest, count_up}
use Rattle.sctp_model.specs.sender.Entries.{is_of_abandoned, passes_at}
use Rattle.sctp_model.specs.sender.Readers.{abandoned}
use Rattle.sctp_model.specs.sender.Queueing as model
use Rattle.sctp_model.specs.sender.Queueing.{refusal, queued}
use Rattle.sctp_model.specs.sender.SackTaken as taken
use Rattle.sctp_model.specs.sender.Abandoning as gone
use Rattle.sctp_model.specs.sender.Abandoning.{is_to_expire, is_worn, ticket_at}
use Rattle.sctp_send.specs.declared.abandon.Abandoned.{Abandoned as AbandonedFields}
use Rattle.sctp_send.specs.declared.abandon.Abandoned.TheVariants.{Withdrawn, Abandoned, Acknowledged, Unknown, Reliable}
use Rattle.sctp_values.specs.declared.ticket.Ticket.{Ticket}
use Rattle.sctp_send.specs.declared.queueing.SendFault.{SendFault}
use Rattle.sctp_send.specs.declared.queueing.SendFault.TheVariants.{NoSuchStream, Resetting, Empty, TooLong, QueueFull, Spent, NoMemory}
use Rattle.sctp_send.specs.declared.sack.SackFault.{SackFault}
use Rattle.sctp_send.specs.declared.sack.SackFault.TheVariants.{Stale, Beyond, BadBlock}

-- ---- a SACK

-- a fault, by its name in the model (RFC 9260, 6.2.1)
abbrev pub fault_meaning : SackFault → taken.SackFault
fault_meaning Stale = taken.Stale
fault_meaning Beyond = taken.Beyond
fault_meaning BadBlock = taken.BadBlock

-- why a SACK or a SHUTDOWN was refused, if it was
abbrev pub reason_meaning : Result (Unit {0}) SackFault → Option taken.SackFault
reason_meaning (Ok _) = None
reason_meaning (Err fault) = Some (fault_meaning fault)

-- ---- a message handed in

-- the refusal given is the first that holds; want of memory is told where none does
abbrev pub refused_with : Option model.Refusal → SendFault → Type 0
refused_with r NoSuchStream = r ≡ Some model.NoSuchStream
refused_with r Resetting = r ≡ Some model.Resetting
refused_with r Empty = r ≡ Some model.Empty
refused_with r TooLong = r ≡ Some model.TooLong
refused_with r QueueFull = r ≡ Some model.QueueFull
refused_with r Spent = r ≡ Some model.Spent
refused_with r NoMemory = r ≡ None

-- Each refusal is given exactly where it is the first that holds; want of memory only where none does.
abbrev pub QueueAnswer : SenderView → ℕ → List ℕ → Result Ticket SendFault → Type 0
QueueAnswer v stream bytes (Ok ticket) = (refusal v stream bytes ≡ None) × (ticket.0 ≡ suc v.tickets)
QueueAnswer v stream bytes (Err fault) = refused_with (refusal v stream bytes) fault

-- the view after the call: a refusal changes nothing
abbrev pub queue_after : SenderView → Lane → (payload : ℕ) → List ℕ → (until limit : Option ℕ) → Result Ticket SendFault → SenderView
queue_after v lane payload bytes until limit (Ok ticket) = queued v lane payload bytes until limit
queue_after v lane payload bytes until limit (Err fault) = v

-- the lane of a call
abbrev pub lane_for : ℕ → Bool → Lane
lane_for stream ordered = record { stream = stream; kind = lane_kind (not ordered) }

-- ---- a message abandoned

-- what `abandon` answers, by its name in the model
abbrev pub answer_meaning : AbandonedFields → gone.AbandonAnswer
answer_meaning Withdrawn = gone.Withdrawn
answer_meaning Abandoned = gone.Abandoned
answer_meaning Acknowledged = gone.Acknowledged
answer_meaning Unknown = gone.Unknown
answer_meaning Reliable = gone.Reliable

-- and its code
abbrev pub answer_code : AbandonedFields → ℕ
answer_code Withdrawn = 1
answer_code Abandoned = 2
answer_code Acknowledged = 3
answer_code Unknown = 4
answer_code Reliable = 5

-- how many messages were abandoned after they got a TSN (RFC 3758, 3.5): those with the tickets from 1 on that were given
abbrev pub abandoned_messages : SenderView → ℕ
abandoned_messages v = count_by (abandoned v) (count_up 1 v.tickets)

-- ---- the messages that are late

-- the lowest ticket above this one whose message is past its time and may be abandoned
abbrev pub next_late : SenderView → (last now : ℕ) → Option ℕ
next_late v last now = lowest (λ t. nat_lt last t && is_to_expire v now t) v.tickets

-- ---- the messages at their limit of retransmissions

-- an outstanding fragment at an index, of a message that isn't abandoned, was retransmitted as often as that allows (RFC 7496, 3.1)
abbrev pub is_limit_at : SenderView → (index : ℕ) → Bool
is_limit_at v i = nat_lt v.cum i && passes_at v.plan (λ j e. not (is_of_abandoned v e) && is_worn v j e) i

-- the message with this ticket has such a fragment
abbrev pub is_at_limit : SenderView → (ticket : ℕ) → Bool
is_at_limit v t = list_any (λ i. is_limit_at v i && (ticket_at v i == t)) (count_up 1 (length v.plan.entries))

-- the lowest ticket above this one of such a message
abbrev pub next_at_limit : SenderView → (last : ℕ) → Option ℕ
next_at_limit v last = lowest (λ t. nat_lt last t && is_at_limit v t) v.tickets
