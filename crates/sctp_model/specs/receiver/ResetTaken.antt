-- A request of the peer to reset its outgoing streams arrives: its result, and the receiver after it (RFC 6525, 5.2).
use Rattle.std.specs.Prelude.{ℕ, suc, ◌-◌, ◌==◌, nat_le, max, if◌then◌else◌, Bool, true, false, not, ◌&&◌, ◌||◌, List, [], ◌∷◌, length, Option, None, Some}
use Rattle.std.specs.Prelude.{unwrap_or}
use Rattle.std.specs.List.{list_any}
use Rattle.sctp_model.specs.numbers.Serial.{tsn}
use Rattle.sctp_model.specs.wire.Typed.{Typed}
use Rattle.sctp_model.specs.wire.Reconfig.{ResetMeaning, ResetResult, Performed, Denied, WrongStream, BadNumber, InProgress}
use Rattle.sctp_model.specs.messages.Format.{Kind, Ordered, Unordered, Lane, same_lane, unordered_lane}
use Rattle.sctp_model.specs.messages.Pieces.{Piece}
use Rattle.sctp_model.specs.sender.Outgoing.{lists, are_listed}
use Rattle.sctp_model.specs.receiver.ReceiverView.{Handed, ReceiverView, handed}
use Rattle.sctp_model.specs.receiver.Rows.{first_of}
use Rattle.sctp_model.specs.receiver.Reading.{is_behind}
use Rattle.sctp_model.specs.receiver.Incoming.{Waited}

-- ---- the next number of a lane, once all up to the request has arrived

-- one past the number of a chunk or message of lane k, if that is lane l and it has a number; else 0
abbrev pub past_on : (l k : Lane) → Option ℕ → ℕ
past_on l k None = 0
past_on l k (Some n) = if same_lane k l then suc n else 0

-- one past the largest number of a lane among chunks
abbrev pub past_kept : Lane → List Piece → ℕ
past_kept l [] = 0
past_kept l (x ∷ xs) = max (past_on l x.lane x.number) (past_kept l xs)

-- one past the largest number of a lane among messages
abbrev pub past_handed : Lane → List Handed → ℕ
past_handed l [] = 0
past_handed l (h ∷ hs) = max (past_on l h.lane h.number) (past_handed l hs)

-- one past TOP of a stream, 0 if no unordered number was recorded or skipped
abbrev pub past_top : ReceiverView → (stream : ℕ) → ℕ
past_top r s = max (r.skip (unordered_lane s)) (max (past_kept (unordered_lane s) r.kept) (past_handed (unordered_lane s) (handed r s)))

-- the number that is 0 on the wire from now on
abbrev pub count_on : ReceiverView → (stream : ℕ) → Kind → ℕ
count_on r s Ordered = r.next s
count_on r s Unordered = past_top r s

-- ---- which streams

-- the stream is one of the request's; if it lists none, all are
abbrev pub names : ReceiverView → List ℕ → (stream : ℕ) → Bool
names r [] s = true
names r (x ∷ xs) s = lists (x ∷ xs) s

-- ---- the result

-- THE TABLE OF RESULTS of a request in its turn: the first that holds; else it is performed. It waits for all chunks up to its last TSN: so no chunk that
-- arrives later has a number from before the reset (5.2.2).
abbrev pub reset_answer : ReceiverView → (c : ℕ) → ResetMeaning → ResetResult
reset_answer r c m = first_of
    ((list_any (nat_le r.streams) m.streams, WrongStream)
    ∷ (not (is_behind r c m.last), InProgress)
    ∷ [])
    Performed

-- the request is the next one
abbrev pub is_next : ReceiverView → (number : ℕ) → Bool
is_next r number = number == tsn r.initial (suc r.resets.taken)

-- the request is the last one, again
abbrev pub is_again : ReceiverView → (number : ℕ) → Bool
is_again r number = number == tsn r.initial r.resets.taken

-- that is to be retried
abbrev pub is_in_progress : ResetResult → Bool
is_in_progress InProgress = true
is_in_progress Performed = false
is_in_progress Denied = false
is_in_progress WrongStream = false
is_in_progress BadNumber = false

-- that is finished well
abbrev pub is_done : ResetResult → Bool
is_done Performed = true
is_done InProgress = false
is_done Denied = false
is_done WrongStream = false
is_done BadNumber = false

-- It is in its turn: the next one, or the last one, if that was in progress.
abbrev pub is_in_turn : ReceiverView → (number : ℕ) → Bool
is_in_turn r number = is_next r number || (is_again r number && is_in_progress r.resets.result)

-- how many requests are finished: not the last one while it is in progress, since it is expected again, under its number
abbrev pub requests_finished : ReceiverView → ℕ
requests_finished r = if is_in_progress r.resets.result then r.resets.taken - 1 else r.resets.taken

-- the number of the last one that is, so the one expected next, less one: a request of one's own repeats it (4.1)
abbrev pub last_finished : ReceiverView → ℕ
last_finished r = tsn r.initial (requests_finished r)

-- The result of a request with this number, `a` if it is in its turn; the last one has the same result as before (5.2.1).
abbrev pub answer_in_turn : ReceiverView → (number : ℕ) → ResetResult → ResetResult
answer_in_turn r number a = first_of ((is_in_turn r number, a) ∷ (is_again r number, r.resets.result) ∷ []) BadNumber

-- ---- the same request again

-- That request was in progress and was performed since, and this one says the same.
abbrev pub is_done_again : Option Waited → ResetMeaning → Bool
is_done_again None m = false
is_done_again (Some w) m = w.done && ((w.last == m.last) && are_listed w.streams m.streams)

-- The request was performed before: in progress under one sequence number, performed when it arrived again, and retried with the next number before the peer
-- had learned that (5.2.7). Its streams begin anew again, where they already do; nothing more is to be reported.
abbrev pub was_performed : ReceiverView → ResetMeaning → Bool
was_performed r m = is_done_again r.resets.waited m

-- what is known of it once it has this result: of one that is in progress, and of one that was, and arrives again
abbrev pub waited_on : ReceiverView → ResetMeaning → ResetResult → Option Waited
waited_on r m a =
    if is_in_progress a then Some (record { last = m.last; streams = m.streams; done = was_performed r m })
    else if is_next r m.number then None
    else Some (record { last = m.last; streams = m.streams; done = is_done a })

-- ---- the receiver after it

-- it is noted as the last one
abbrev pub with_answer : ReceiverView → ResetMeaning → ResetResult → ReceiverView
with_answer r m a = record r {
  resets = record r.resets { taken = if is_next r m.number then suc r.resets.taken else r.resets.taken; result = a; waited = waited_on r m a };
}

-- the numbers of these streams begin anew, and of these it is to be reported how many of their messages were delivered before
abbrev pub renumbered : ReceiverView → (named anew : ℕ → Bool) → ReceiverView
renumbered r named anew = record r {
  resets = record r.resets {
    base = λ l. if named l.stream then count_on r l.stream l.kind else r.resets.base l;
    told = λ s. if anew s then Some (length (handed r s)) else r.resets.told s;
  };
}

-- if the request is performed
abbrev pub renumbered_by : ReceiverView → (named anew : ℕ → Bool) → ResetResult → ReceiverView
renumbered_by r named anew Performed = renumbered r named anew
renumbered_by r named anew a = r

-- The view after a request for these streams, with the result `a` if it is in its turn.
abbrev pub request_taken : ReceiverView → ResetMeaning → (named anew : ℕ → Bool) → ResetResult → ReceiverView
request_taken r m named anew a = if is_in_turn r m.number then with_answer (renumbered_by r named anew a) m a else r

-- these of its streams are reset by it, and weren't before
abbrev pub names_anew : ReceiverView → ResetMeaning → (stream : ℕ) → Bool
names_anew r m s = names r m.streams s && not (was_performed r m)

-- A RESET TAKEN
abbrev pub reset_taken : ReceiverView → (c : ℕ) → ResetMeaning → ReceiverView
reset_taken r c m = request_taken r m (names r m.streams) (names_anew r m) (reset_answer r c m)

-- a request of another kind names no streams
abbrev pub other_meaning : (number : ℕ) → ResetMeaning
other_meaning number = record { number = number; last = 0; streams = [] }

-- after one, which is denied
abbrev pub denied : ReceiverView → (number : ℕ) → ReceiverView
denied r number = request_taken r (other_meaning number) (λ s. false) (λ s. false) Denied

-- ---- responses that wait for a packet

-- the view with these
abbrev pub with_answers : ReceiverView → List Typed → ReceiverView
with_answers r xs = record r { resets = record r.resets { answers = xs } }

-- ---- what is reported to the user

-- of the messages that wait on a stream, how many were delivered before it was reset last
abbrev pub old_waiting : ReceiverView → (stream : ℕ) → ℕ
old_waiting r s = unwrap_or (r.resets.told s) 0 - length (r.taken s)

-- the view once it was reported of this stream
abbrev pub told_of : ReceiverView → (stream : ℕ) → ReceiverView
told_of r s = record r { resets = record r.resets { told = λ t. if t == s then None else r.resets.told t } }
