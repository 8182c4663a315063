-- The next event that a user is told, and what is left (RFC 8831, 6.4 to 6.7).
use Rattle.std.specs.Prelude.{ℕ, zero, suc, ◌-◌, ◌==◌, Bool, true, false, not, ◌&&◌, if◌then◌else◌, List, [], ◌∷◌, length, Option, None, Some, is_some}
use Rattle.sctp_model.specs.receiver.ReceiverView.{Handed}
use Rattle.sctp_model.specs.receiver.SackMade.{first_taken}
use Rattle.sctp_model.specs.receiver.ResetTaken.{old_waiting}
use Rattle.sctp_model.specs.end.EndView.{EndView, ended_of}
use Rattle.sctp_model.specs.end.UserCalls.{updating, reset_there, told_leaves}
use Rattle.sctp_channels.specs.Streams.{has_channel, is_drained, no_threshold, Table, stream_at, with_stream, with_threshold, first_from}
use Rattle.sctp_channels.specs.Told.{Told, Incoming, Opened, Message, Closed, BufferedAmountLow, Refuses, Ignores, Report}
use Rattle.sctp_channels.specs.Coming.{After, comes, heard, peer_resets, left_over}
use Rattle.sctp_channels.specs.Buffered.{is_low, with_low_told}
use Rattle.sctp_channels.specs.Calling.{outgoing}
use Rattle.sctp_channels.specs.Settling.{Standing, is_closed, is_gone}

-- what is told, if anything is, and the endpoint and streams after it
pub record Reported : Type 0 where
  pub report : Option Report
  pub view : EndView
  pub table : Table

-- nothing is told
abbrev pub quiet : EndView → Table → Reported
quiet v x = record { report = None; view = v; table = x }

-- a stream that is closed is free, or the peer has reset it again
abbrev pub with_left_over : Table → (stream : ℕ) → Table
with_left_over x s = with_threshold (with_stream x s (left_over (stream_at x s))) s no_threshold

-- a channel is closed
abbrev pub reports_closed : (stream : ℕ) → EndView → Table → Reported
reports_closed s v x = record { report = Some (record { stream = s; told = Closed }); view = v; table = with_left_over x s }

-- the buffered amount of a channel is low
abbrev pub reports_low : (stream : ℕ) → EndView → Table → Reported
reports_low s v x = record { report = Some (record { stream = s; told = BufferedAmountLow }); view = v; table = with_low_told s x }

-- ---- a message

-- one past a stream; past the last possible one it is the first
abbrev pub one_on : ℕ → ℕ
one_on s = if s == 65_535 then 0 else suc s

-- the endpoint once the first message that waits on a stream is taken, these others behind it (RFC 9260, 11.1.6)
abbrev pub first_taken_at : EndView → (stream : ℕ) → Handed → List Handed → EndView
first_taken_at v s h rest = updating (record v { receiver = first_taken v.receiver s h rest })

-- a message that was taken is told of, and the next one is looked for on the streams behind
abbrev pub reports_taken : (stream : ℕ) → Handed → List Handed → After → EndView → Table → Reported
reports_taken s h rest a v x = record {
  report = Some (record { stream = s; told = a.told });
  view = first_taken_at v s h rest;
  table = record (with_stream x s (heard a)) { next = one_on s };
}

-- one that waits on shows that the channel is open
abbrev pub reports_waiting : (stream : ℕ) → After → EndView → Table → Reported
reports_waiting s a v x = record { report = Some (record { stream = s; told = a.told }); view = v; table = with_stream x s (heard a) }

-- by whether it is taken
abbrev pub reports_after : (stream : ℕ) → Handed → List Handed → After → EndView → Table → Reported
reports_after s h rest a v x = if a.taken then reports_taken s h rest a v x else reports_waiting s a v x

-- the first message that waits on the stream
abbrev pub reports_message : (stream : ℕ) → List Handed → EndView → Table → Reported
reports_message s [] v x = quiet v x
reports_message s (h ∷ rest) v x = reports_after s h rest (comes x.role (outgoing v x) s h (stream_at x s)) v x

-- ---- which stream is next

-- nothing waits
abbrev pub is_empty : List Handed → Bool
is_empty [] = true
is_empty (h ∷ hs) = false

-- A message waits on it, and isn't one of the stream's next channel.
abbrev pub is_readable : EndView → Table → (stream : ℕ) → Bool
is_readable v x s = not (is_empty (v.receiver.waiting s)) && not (is_drained (stream_at x s))

-- the lowest readable stream from one on; there are 65,536 at most
abbrev pub readable_from : EndView → Table → ℕ → Option ℕ
readable_from v x s = first_from (is_readable v x) s (65_536 - s)

-- this stream, or else that
abbrev pub or_else : Option ℕ → Option ℕ → Option ℕ
or_else (Some s) o = Some s
or_else None o = o

-- the streams take turns
abbrev pub turn : EndView → Table → Option ℕ
turn v x = or_else (readable_from v x x.next) (readable_from v x 0)

-- ---- the association is over

-- it has a channel
abbrev pub is_used : Table → (stream : ℕ) → Bool
is_used x s = has_channel (stream_at x s).state

-- each channel is closed by it
abbrev pub reports_end : Option ℕ → EndView → Table → Reported
reports_end None v x = quiet v x
reports_end (Some s) v x = reports_closed s v x

-- once no message is left to be told
abbrev pub reports_over : EndView → Table → Reported
reports_over v x = if is_some (ended_of v.phase) then reports_end (first_from (is_used x) 0 (length x.streams)) v x else quiet v x

-- ---- the next event

-- a message, or the end
abbrev pub reports_turn : Option ℕ → EndView → Table → Reported
reports_turn None v x = reports_over v x
reports_turn (Some s) v x = reports_message s (v.receiver.waiting s) v x

-- a buffered amount that is low, before
abbrev pub reports_second : Option ℕ → EndView → Table → Reported
reports_second None v x = reports_turn (turn v x) v x
reports_second (Some s) v x = reports_low s v x

-- a channel that is closed, first
abbrev pub reports_first : Option ℕ → EndView → Table → Reported
reports_first None v x = reports_second (first_from (is_low v x) 0 (length x.streams)) v x
reports_first (Some s) v x = reports_closed s v x

-- THE NEXT EVENT
abbrev pub next_report : EndView → Table → Reported
next_report v x = reports_first (first_from (is_closed v x) 0 (length x.streams)) v x

-- ---- resets of the peer

-- a stream was reset, so many of its messages that wait being from before
abbrev pub with_reset : (stream count : ℕ) → Table → Table
with_reset s count x = with_stream x s (peer_resets count (stream_at x s))

-- if there is one to be told
abbrev pub reset_noted : Option ℕ → EndView → Table → Standing
reset_noted None v x = record { view = v; table = x }
reset_noted (Some s) v x = record { view = told_leaves (Some s) v; table = with_reset s (old_waiting v.receiver s) x }

-- The peer's resets that weren't told are noted one after the other, so many at most (RFC 6525, 5.2.2).
abbrev pub resets_noted : (many : ℕ) → EndView → Table → Standing
resets_noted zero v x = record { view = v; table = x }
resets_noted (suc n) v x =
    let t = reset_noted (reset_there v) v x in
    resets_noted n t.view t.table

-- all of them
abbrev pub all_noted : EndView → Table → Standing
all_noted v x = resets_noted v.receiver.streams v x

-- ---- streams that are closed without a channel

-- one of them is free again, without a report
abbrev pub swept_at : EndView → Table → (stream : ℕ) → Table
swept_at v x s = if is_gone v x s then with_left_over x s else x

-- so many streams, from 0 on
abbrev pub swept_below : (many : ℕ) → EndView → Table → Table
swept_below zero v x = x
swept_below (suc n) v x = swept_at v (swept_below n v x) n

-- all
abbrev pub swept : EndView → Table → Table
swept v x = swept_below (length x.streams) v x

-- ---- and when they are

-- After a packet: resets of the peer are noted, and streams that are closed without a channel are free.
abbrev pub noted_and_swept : EndView → Table → Standing
noted_and_swept v x =
    let t = all_noted v x in
    record { view = t.view; table = swept t.view t.table }

-- A message that is ignored may be the last of those before the peer's reset: then the stream may be closed by that, and free.
abbrev pub freed_by : Told → (stream : ℕ) → EndView → Table → Table
freed_by (Incoming p) s v x = x
freed_by Opened s v x = x
freed_by (Message c) s v x = x
freed_by Closed s v x = x
freed_by BufferedAmountLow s v x = x
freed_by (Refuses why) s v x = x
freed_by (Ignores why) s v x = swept_at v x s

-- by what was told
abbrev pub freed_behind : Option Report → EndView → Table → Table
freed_behind None v x = x
freed_behind (Some r) v x = freed_by r.told r.stream v x

-- an event, and the stream free behind it
abbrev pub with_freed : Reported → Reported
with_freed r = record { report = r.report; view = r.view; table = freed_behind r.report r.view r.table }

-- THE NEXT EVENT, with what it leaves
abbrev pub next_told : EndView → Table → Reported
next_told v x = with_freed (next_report v x)
