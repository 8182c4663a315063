-- What a sender assigns next: a number to a message, and indexes to its fragments (RFC 9260, 6.9; RFC 8260, 2.2.2 and 3.2).
use Rattle.std.specs.Prelude.{ℕ, suc, ◌+◌, ◌%◌, ◌==◌, if◌then◌else◌, Bool, List, [], ◌∷◌, ◌++◌, length, map, drop, slice_get, find, Option, option_map}
use Rattle.sctp_model.specs.messages.Format.{Format, Plain, Interleaved, at_lane}
use Rattle.sctp_model.specs.messages.Plan.{Entry, Plan, parts_from}
use Rattle.sctp_model.specs.sender.SenderView.{Queued, SenderView}
use Rattle.sctp_model.specs.sender.Words.{first_there, count_up}
use Rattle.sctp_model.specs.sender.Entries.{continued}

-- ---- what grows

-- a message has taken the next number of its lane, and this many of its fragments the next indexes
abbrev pub with_message : Plan → Queued → (count : ℕ) → Plan
with_message p q count = record {
  messages = at_lane p.messages q.lane (p.messages q.lane ++ q.message ∷ []);
  entries = p.entries ++ parts_from q.lane (length (p.messages q.lane)) 0 count;
}

-- one entry has taken the next index
abbrev pub with_entry : Plan → Entry → Plan
with_entry p e = record p { entries = p.entries ++ e ∷ [] }

-- the messages that wait, but for the first of those that are meant
abbrev pub without_first : (Queued → Bool) → List Queued → List Queued
without_first is_meant [] = []
without_first is_meant (q ∷ qs) = if is_meant q then qs else q ∷ without_first is_meant qs

-- ---- DATA: a whole message at once, in the order of the send calls

-- the message that has waited longest takes its number, and all its fragments take their indexes
abbrev pub whole_next : SenderView → Option SenderView
whole_next v = option_map (λ q. record v { plan = with_message v.plan q (length q.message.fragments); queue = drop 1 v.queue }) (slice_get v.queue 0)

-- ---- I-DATA: the streams take turns, a fragment each

-- the message is of this stream
abbrev pub is_on : (stream : ℕ) → Queued → Bool
is_on s q = q.lane.stream == s

-- the message that has waited longest on a stream
abbrev pub first_on : (stream : ℕ) → List Queued → Option Queued
first_on s qs = find (is_on s) qs

-- the stream after this one, upward and cyclic
abbrev pub stream_after : SenderView → ℕ → ℕ
stream_after v s = suc s % v.streams

-- a stream goes on with the next fragment of its message in part
abbrev pub going_on : SenderView → (stream : ℕ) → Entry → SenderView
going_on v s e = record v { plan = with_entry v.plan e; turn = stream_after v s }

-- a stream begins with the first fragment of a message
abbrev pub beginning : SenderView → (stream : ℕ) → Queued → SenderView
beginning v s q = record v { plan = with_message v.plan q 1; queue = without_first (is_on s) v.queue; turn = stream_after v s }

-- What a stream does in its turn: it goes on if a message is in part, so that they go one at a time; else it begins the next, if one waits.
abbrev pub turn_of : SenderView → (stream : ℕ) → Option SenderView
turn_of v s = first_there (option_map (going_on v s) (continued v.plan s) ∷ option_map (beginning v s) (first_on s v.queue) ∷ [])

-- all streams, in the order of their turns: upward and cyclic from the one whose turn is next
abbrev pub turns : SenderView → List ℕ
turns v = map (λ d. (v.turn + d) % v.streams) (count_up 0 v.streams)

-- ---- what is next

-- The view once the fragment that is assigned next has its index: under I-DATA, that of the first stream in turn that has something to send.
abbrev pub assigned : Format → SenderView → Option SenderView
assigned Plain v = whole_next v
assigned Interleaved v = first_there (map (turn_of v) (turns v))
