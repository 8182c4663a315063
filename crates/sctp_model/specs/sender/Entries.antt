-- What a sender's view says of each entry of its plan: whose it is, what it carries, how far it is; and which messages are partly sent.
use Rattle.std.specs.Prelude.{ℕ, suc, ◌+◌, ◌-◌, ◌==◌, nat_lt, if◌then◌else◌, Bool, false, not, ◌&&◌, ◌||◌, List, [], ◌∷◌, length, slice_index_or, Option}
use Rattle.std.specs.Prelude.{None, Some, option_and_then}
use Rattle.std.specs.Option.{option_or, option_map_or}
use Rattle.sctp_model.specs.messages.Format.{Lane, same_lane}
use Rattle.sctp_model.specs.messages.Plan.{Message, Entry, Part, End, Plan, entry_at, message_at}
use Rattle.sctp_model.specs.sender.SenderView.{SenderView}
use Rattle.sctp_model.specs.sender.Words.{when, some_passes}
pub use Rattle.sctp_model.specs.sender.Words.{sum_below}

-- ---- whose an entry is

-- the lane of an entry
abbrev pub entry_lane : Entry → Lane
entry_lane (Part l n k) = l
entry_lane (End l n) = l

-- the number of an entry's message
abbrev pub entry_number : Entry → ℕ
entry_number (Part l n k) = n
entry_number (End l n) = n

-- which fragment of its message; an end mark counts as the first
abbrev pub entry_fragment : Entry → ℕ
entry_fragment (Part l n k) = k
entry_fragment (End l n) = 0

-- an entry of the message with this number in its lane
abbrev pub is_of : Lane → ℕ → Entry → Bool
is_of l n e = same_lane l (entry_lane e) && (n == entry_number e)

-- an entry's message
abbrev pub entry_message : Plan → Entry → Option Message
entry_message p e = message_at p (entry_lane e) (entry_number e)

-- ---- what it carries

-- the fragments of a message, if there is one
abbrev pub fragments_in : Option Message → List (List ℕ)
fragments_in m = option_map_or (λ x. x.fragments) m []

-- the data of an entry whose message is this; an end mark is never sent, and has none
abbrev pub bytes_in : Entry → Option Message → List ℕ
bytes_in (Part l n k) m = slice_index_or (fragments_in m) k []
bytes_in (End l n) m = []

-- the data of an entry
abbrev pub entry_bytes : Plan → Entry → List ℕ
entry_bytes p e = bytes_in e (entry_message p e)

-- ---- over the whole plan

-- one passes of these entries, which are at the indexes from i on
abbrev pub any_from : (ℕ → Entry → Bool) → ℕ → List Entry → Bool
any_from test i [] = false
any_from test i (e ∷ es) = test i e || any_from test (suc i) es

-- one passes of all entries
abbrev pub some_entry : SenderView → (ℕ → Entry → Bool) → Bool
some_entry v test = any_from test 1 v.plan.entries

-- the sum over these entries, which are at the indexes from i on
abbrev pub sum_from : (ℕ → Entry → ℕ) → ℕ → List Entry → ℕ
sum_from summand i [] = 0
sum_from summand i (e ∷ es) = summand i e + sum_from summand (suc i) es

-- an entry is at the index, and passes
abbrev pub passes_at : Plan → (ℕ → Entry → Bool) → ℕ → Bool
passes_at p test i = some_passes (test i) (entry_at p i)

-- ---- how far it is

-- its message was abandoned
abbrev pub is_of_abandoned : SenderView → Entry → Bool
is_of_abandoned v e = v.abandoned (entry_lane e) (entry_number e)

-- Wanted: the last SACK taken doesn't cover it, and its message was not abandoned, so that the peer may still need it.
abbrev pub is_wanted : SenderView → ℕ → Entry → Bool
is_wanted v i e = not (v.covered i) && not (is_of_abandoned v e)

-- it went out, and is wanted still: what the data timer runs for (RFC 9260, 6.3.2 and 6.3.3)
abbrev pub is_unsettled : SenderView → ℕ → Entry → Bool
is_unsettled v i e = v.sent i && is_wanted v i e

-- it never went out, and is wanted
abbrev pub is_unsent : SenderView → ℕ → Entry → Bool
is_unsent v i e = not (v.sent i) && is_wanted v i e

-- In flight: it went out, is wanted, and isn't to be repeated (RFC 9260, 6.1: outstanding and not marked for retransmission).
abbrev pub is_in_flight : SenderView → ℕ → Entry → Bool
is_in_flight v i e = not (v.marked i) && is_unsettled v i e

-- its data, if it is in flight
abbrev pub flight_of : SenderView → ℕ → Entry → ℕ
flight_of v i e = if is_in_flight v i e then length (entry_bytes v.plan e) else 0

-- how many bytes of data are in flight
abbrev pub in_flight : SenderView → ℕ
in_flight v = sum_from (flight_of v) 1 v.plan.entries

-- ---- messages in part: some fragments have an index, others are to come

-- the last entry of a stream: one further on, or else this one
abbrev pub latest : ℕ → List Entry → Option Entry
latest s [] = None
latest s (e ∷ es) = option_or (latest s es) (when ((entry_lane e).stream == s) e)

-- the fragment after this entry in its message; after the last one, and after an end mark, there is none
abbrev pub next_part : Plan → Entry → Option Entry
next_part p (Part l n k) = when (nat_lt (suc k) (length (fragments_in (message_at p l n)))) (Part l n (suc k))
next_part p (End l n) = None

-- The fragment that a stream's partly sent message takes next, if it has such a message. It has one at most: a stream's messages go one after the other
-- (RFC 8260, 2.2.2).
abbrev pub continued : Plan → ℕ → Option Entry
continued p s = option_and_then (next_part p) (latest s p.entries)

-- how many fragments its message has from this entry on
abbrev pub fragments_from : Plan → Option Entry → ℕ
fragments_from p None = 0
fragments_from p (Some e) = length (fragments_in (entry_message p e)) - entry_fragment e

-- the message is in part: it is the one that its stream goes on with
abbrev pub is_in_part : SenderView → Lane → ℕ → Bool
is_in_part v l n = some_passes (is_of l n) (continued v.plan l.stream)

-- 1 for an entry that is there
abbrev pub one_if_some : Option Entry → ℕ
one_if_some None = 0
one_if_some (Some e) = 1

-- how many messages are in part: the streams that have one
abbrev pub in_part : SenderView → ℕ
in_part v = sum_below (λ s. one_if_some (continued v.plan s)) v.streams
