-- A sender resets its outgoing streams: once all that was sent on them is acknowledged it asks its peer, and once the peer has performed that, their
-- numbers begin anew (RFC 6525, 5.1).
use Rattle.std.specs.Prelude.{ℕ, suc, ◌-◌, ◌==◌, min, nat_lt, if◌then◌else◌, Bool, false, not, ◌&&◌, List, [], ◌∷◌, length, filter, drop, take, Option, None}
use Rattle.std.specs.Prelude.{Some, is_some}
use Rattle.std.specs.List.{list_any}
use Rattle.sctp_model.specs.numbers.Limits.{STREAM_LIMIT, REQUEST_LIMIT, RESETS_AT_ONCE}
use Rattle.sctp_model.specs.numbers.Lists.{at}
use Rattle.sctp_model.specs.numbers.Serial.{tsn}
use Rattle.sctp_model.specs.wire.Reconfig.{ResetMeaning, is_done_code, is_progress_code, is_number_code}
use Rattle.sctp_model.specs.messages.Format.{Lane}
use Rattle.sctp_model.specs.sender.Outgoing.{Sending, Sends, Resets, Refuses, is_resetting, lists, are_listed, Numbering, FirstNumber, NextNumber, LaterNumber}
use Rattle.sctp_model.specs.sender.Outgoing.{takes_next, is_later, Request, Outgoing}
use Rattle.sctp_model.specs.sender.SenderView.{SenderView}
use Rattle.sctp_model.specs.sender.Words.{count_up}
use Rattle.sctp_model.specs.sender.Entries.{entry_lane, continued}
use Rattle.sctp_model.specs.sender.Assigning.{is_on}

-- the view that knows this of resets
abbrev pub with_resets : Outgoing → SenderView → SenderView
with_resets x v = record v { resets = x }

-- ---- the user asks for it

-- The stream takes no further message. What was accepted before is still sent.
abbrev pub resetting : SenderView → (stream : ℕ) → SenderView
resetting v s = with_resets (record v.resets { sending = at v.resets.sending s Resets }) v

-- ---- the request

-- one of its indexes isn't acknowledged
abbrev pub has_past : SenderView → (stream : ℕ) → Bool
has_past v s = list_any (λ e. (entry_lane e).stream == s) (drop v.cum v.plan.entries)

-- No message of the stream waits, none is partly sent, and all of its indexes are acknowledged.
abbrev pub is_still_on : SenderView → (stream : ℕ) → Bool
is_still_on v s = not (list_any (is_on s) v.queue) && (not (is_some (continued v.plan s)) && not (has_past v s))

-- its reset was asked for, and nothing of it is left to be acknowledged
abbrev pub is_ready : SenderView → (stream : ℕ) → Bool
is_ready v s = is_resetting (v.resets.sending s) && is_still_on v s

-- the streams that the next request names: the lowest that are ready
abbrev pub ready : SenderView → List ℕ
ready v = take RESETS_AT_ONCE (filter (is_ready v) (count_up 0 (min v.streams STREAM_LIMIT)))

-- there is a stream
abbrev pub has_stream : List ℕ → Bool
has_stream xs = nat_lt 0 (length xs)

-- One request at a time (5.1.1): none is outstanding, some stream is ready, and there are sequence numbers left.
abbrev pub may_ask : SenderView → Bool
may_ask v = not (is_some v.resets.pending) && (has_stream (ready v) && nat_lt v.resets.made REQUEST_LIMIT)

-- The last request that was made said the same, but for its number: the same last TSN, and the same streams.
abbrev pub was_said : SenderView → Option Request → List ℕ → Bool
was_said v None xs = false
was_said v (Some q) xs = (tsn v.initial q.last == tsn v.initial (length v.plan.entries)) && are_listed q.streams xs

-- the first of them twice, as many as a request names
abbrev pub first_twice : List ℕ → List ℕ
first_twice [] = []
first_twice (x ∷ xs) = take RESETS_AT_ONCE (x ∷ x ∷ xs)

-- What the next request names: the streams that are ready. If it said the same as the last one, it names its first stream twice: so the peer, which may have
-- that one in progress still, or had it so, doesn't take it for the same one under another number, but reports it (5.2.7). It is the same set of streams, so it
-- is read as before.
abbrev pub named_next : SenderView → List ℕ
named_next v = if was_said v v.resets.last_made (ready v) then first_twice (ready v) else ready v

-- the next request
abbrev pub next_request : SenderView → Request
next_request v = record { first = suc v.resets.made; last = length v.plan.entries; streams = named_next v; numbering = FirstNumber }

-- The request is made: the peer performs it once all that is assigned by now has arrived (4.1).
abbrev pub asked : SenderView → SenderView
asked v = with_resets (record v.resets { made = suc v.resets.made; pending = Some (next_request v); last_made = Some (next_request v) }) v

-- what it says, each time that it is sent
abbrev pub request_said : SenderView → Request → ResetMeaning
request_said v q = record { number = tsn v.initial v.resets.made; last = tsn v.initial q.last; streams = q.streams }

-- ---- it is retransmitted

-- the outstanding request has this number, and this many were used
abbrev pub numbered_so : SenderView → (made : ℕ) → Numbering → Request → SenderView
numbered_so v made x q = with_resets (record v.resets { made = made; pending = Some (record q { numbering = x }) }) v

-- Its timer retransmits it: if it is in progress, with the next sequence number, if there is one, since a request with a number that was taken may always have
-- the same response (5.2.1 and 5.2.7).
abbrev pub retried_in : SenderView → Option Request → SenderView
retried_in v None = v
retried_in v (Some q) = if takes_next q.numbering && nat_lt v.resets.made REQUEST_LIMIT then numbered_so v (suc v.resets.made) LaterNumber q else v

-- the view once it is retransmitted, if there is one
abbrev pub retried : SenderView → SenderView
retried v = retried_in v v.resets.pending

-- ---- its response

-- the streams of a request do this from now on
abbrev pub set_to : Sending → Request → (ℕ → Sending) → ℕ → Sending
set_to x q f s = if lists q.streams s then x else f s

-- Their numbers begin anew: the next number of each of their lanes is 0 on the wire (5.1.2).
abbrev pub rebased : SenderView → Request → Lane → ℕ
rebased v q l = if lists q.streams l.stream then length (v.plan.messages l) else v.resets.base l

-- The request was performed.
abbrev pub reset_done : SenderView → Request → SenderView
reset_done v q = with_resets (record v.resets { base = rebased v q; sending = set_to Sends q v.resets.sending; pending = None }) v

-- The peer refuses: so its streams take no message any more, since it isn't known how their numbers would be read.
abbrev pub reset_refused : SenderView → Request → SenderView
reset_refused v q = with_resets (record v.resets { sending = set_to Refuses q v.resets.sending; pending = None }) v

-- It is in progress: it keeps its number until its timer retransmits it, so that a response to that still counts (5.2.7).
abbrev pub kept_asking : SenderView → Request → SenderView
kept_asking v q = numbered_so v v.resets.made NextNumber q

-- which number of a request this one is, if it isn't in progress under it: its first, or one after a number under which it was
abbrev pub numbering_of : Request → (number : ℕ) → Numbering
numbering_of q n = if n == q.first then FirstNumber else LaterNumber

-- The number that it has isn't its first, whether it is in progress under it or not.
abbrev pub is_past_first : SenderView → Request → Bool
is_past_first v q = is_later (numbering_of q v.resets.made)

-- The peer expects another number than one after a number that was in progress: so it hasn't counted the one before, which is tried again. A peer that counts
-- none of those leads back to the first, one by one.
abbrev pub number_back : SenderView → Request → SenderView
number_back v q = numbered_so v (v.resets.made - 1) (numbering_of q (v.resets.made - 1)) q

-- the view after a response with this code
abbrev pub reset_answered : SenderView → (code : ℕ) → Request → SenderView
reset_answered v code q =
    if is_done_code code then reset_done v q
    else if is_progress_code code then kept_asking v q
    else if is_number_code code && is_past_first v q then number_back v q
    else reset_refused v q

-- the number is that of the outstanding request
abbrev pub is_open_number : SenderView → (number : ℕ) → Bool
is_open_number v number = is_some v.resets.pending && (number == tsn v.initial v.resets.made)

-- after a response to the outstanding request, if there is one
abbrev pub answered_in : SenderView → (code : ℕ) → Option Request → SenderView
answered_in v code None = v
answered_in v code (Some q) = reset_answered v code q

-- The view after a response: one to another request changes nothing (5.2.7).
abbrev pub response_taken : SenderView → (number code : ℕ) → SenderView
response_taken v number code = if is_open_number v number then answered_in v code v.resets.pending else v
