-- What an entry above CUM says: its message, what its index has, how far it came.
use Rattle.std.specs.Prelude.{ℕ, Bool, true, false, List, map, Some}
use Rattle.sctp_model.specs.messages.Format.{Lane}
use Rattle.sctp_model.specs.messages.Plan.{Message, Entry, Part, End}
use Rattle.sctp_model.specs.sender.SenderView.{Queued}
use Rattle.sctp_model.specs.sender.Queueing.{cut}
use Rattle.sctp_values.specs.Meanings.{kind_meaning}
use Rattle.sctp_values.specs.declared.kind.Kind.{Kind}
use Rattle.sctp_send.specs.SenderKept.{Item}
use Rattle.sctp_send.specs.declared.kept.message.Message.{Message as MessageFields}
use Rattle.sctp_send.specs.declared.kept.entry.Standing.{Standing}
use Rattle.sctp_send.specs.declared.kept.entry.Standing.TheVariants.{Unsent, Sent, Marked}
use Rattle.sctp_send.specs.declared.kept.entry.Content.{Content}
use Rattle.sctp_send.specs.declared.kept.entry.Content.TheVariants.{Fragment, EndMark}
use Rattle.sctp_send.specs.declared.kept.entry.Entry.{Entry as EntryFields}

-- the entry went out at least once
abbrev pub was_sent : Standing → Bool
was_sent Unsent = false
was_sent Sent = true
was_sent Marked = true

-- the entry is to go out again (RFC 9260, 6.3.3)
abbrev pub is_marked : Standing → Bool
is_marked Unsent = false
is_marked Sent = false
is_marked Marked = true

-- the lane in which a message was handed in
abbrev pub lane_meaning : MessageFields → Lane
lane_meaning m = record { stream = m.stream; kind = kind_meaning m.kind }

-- the message that was handed in, cut into fragments (RFC 9260, 6.9), with the limit of retransmissions of each (RFC 7496, 3.1)
abbrev pub message_meaning : ℕ → MessageFields → Message
message_meaning size m = record { ticket = m.ticket; payload = m.payload_id; fragments = cut size m.bytes.items; until = m.until; limit = m.limit }

-- the same message while it waits for its number
abbrev pub queued_meaning : ℕ → MessageFields → Queued
queued_meaning size m = record { lane = lane_meaning m; message = message_meaning size m }

-- what an index has: a fragment, or an end mark
abbrev pub entry_meaning : Lane → ℕ → Content → Entry
entry_meaning l n (Fragment k) = Part l n k
entry_meaning l n EndMark = End l n

-- all that an entry says
abbrev pub item_meaning : ℕ → EntryFields → Item
item_meaning size e = record {
  entry = entry_meaning (lane_meaning e.message.value) e.number e.content;
  message = Some (message_meaning size e.message.value);
  sent = was_sent e.standing;
  marked = is_marked e.standing;
  covered = e.covered;
  abandoned = e.abandoned;
  repeats = e.repeats;
}

-- the lane of a stream and a kind
abbrev pub lane_of : ℕ → Kind → Lane
lane_of stream kind = record { stream = stream; kind = kind_meaning kind }

-- The numbers of each lane are counted from 0 on the wire, as long as its stream isn't reset (RFC 6525, 5.1.2).
abbrev pub no_base : Lane → ℕ
no_base = λ l. 0

-- what stands at the indexes of items
abbrev pub entries_of : List Item → List Entry
entries_of xs = map (λ x. x.entry) xs
