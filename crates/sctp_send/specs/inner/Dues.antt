-- From which moment on the message of a ticket may be past its time: ticket by ticket.
use Rattle.std.specs.Prelude.{◌≡◌, ℕ, suc, ◌+◌, ◌-◌, ◌^◌, ◌<◌, ◌≤◌, nat_le, nat_lt, ◌==◌, ◌&&◌, ◌||◌, not, ◌⊎◌, Bool, true, false, if◌then◌else◌, List, [], ◌∷◌, ◌++◌, map, length, slice_index_or, slice_get, Option, None, Some, unwrap_or, option_and_then}
use Rattle.std.specs.List.{list_any}
use Rattle.std.specs.declared.sync.Arc.{Arc}
use Rattle.std.specs.declared.alloc.Global.{Global}
use Rattle.sctp_model.specs.numbers.Limits.{LAST_MOMENT}
use Rattle.sctp_model.specs.messages.Plan.{Message}
use Rattle.sctp_model.specs.sender.SenderView.{SenderView}
use Rattle.sctp_model.specs.sender.Words.{some_passes}
use Rattle.sctp_model.specs.sender.Abandoning.{has_ticket, is_past, is_to_expire}
use Rattle.sctp_send.specs.SenderKept.{Item, Track, Kept}
use Rattle.sctp_send.specs.inner.Expiring.{queue_messages, rest_message, rest_messages}
use Rattle.sctp_model.specs.wire.Chunk.{BlockMeaning}
use Rattle.sctp_model.specs.messages.Acknowledgement.{in_blocks}
use Rattle.sctp_send.specs.CoveredRuns.{in_runs, runs_behind}
use Rattle.sctp_send.specs.declared.kept.entry.CoveredRun.{CoveredRun}
use Rattle.sctp_send.specs.inner.Walks.{any_rest, any_uncovered}
use Rattle.sctp_send.specs.declared.kept.message.Message.{Message as MessageFields}
use Rattle.sctp_send.specs.declared.kept.entry.Entry.{Entry as EntryFields}
use Rattle.sctp_send.specs.declared.kept.track.Rest.{Rest as RestFields}

-- ---- the moment of a ticket

-- so many of the first tickets are passed, and of those behind each has its moment; of a ticket that is passed or was not given it never comes
unfoldable pub due_at : (passed : ℕ) → (moments : List ℕ) → (ticket : ℕ) → ℕ
due_at p ms t = if nat_le t p then 2 ^ 64 else slice_index_or ms (t - suc p) (2 ^ 64)

-- A ticket more was given: it has its message's deadline as its moment, or the last; or it has none, and is passed where none before it has one.
abbrev pub IsPushed : (p q : ℕ) (ms ns : List ℕ) (until : Option ℕ) → Type 0
IsPushed p q ms ns until = ((q ≡ p) × (ns ≡ ms ++ unwrap_or until LAST_MOMENT ∷ [])) ⊎ ((until ≡ None) × (q ≡ suc p) × (ms ≡ []) × (ns ≡ []))

-- a deadline has come
abbrev pub has_come : (now : ℕ) → Option ℕ → Bool
has_come now o = some_passes (λ until. nat_le until now) o

-- ---- who is late

-- the message has the ticket, and is past its time
abbrev pub is_late : (now ticket : ℕ) → Option Message → Bool
is_late now t m = some_passes (λ x. (x.ticket == t) && is_past now x) m

-- one of these is
abbrev pub some_late : (now ticket : ℕ) → List (Option Message) → Bool
some_late now t ms = list_any (λ m. is_late now t m) ms

-- the message of an entry above CUM that may have to be abandoned: not where it was; and where it is said so, not where the entry is covered
abbrev pub standing_message : (asleep : Bool) → Item → Option Message
standing_message asleep x = if (asleep && x.covered) || x.abandoned then None else x.message

-- those of all entries
abbrev pub standing_messages : (asleep : Bool) → List Item → List (Option Message)
standing_messages asleep xs = map (standing_message asleep) xs

-- what is said of a ticket is said only of what isn't covered: not of one that is passed
abbrev pub is_asleep : Kept → (ticket : ℕ) → Bool
is_asleep s t = nat_lt s.passed t && s.asleep

-- Nothing that is kept of the message with a ticket is late and may be abandoned (RFC 3758, 3.5): it waits, it stands above CUM, or it is in part.
pub record IsIdle (s : Kept) (now ticket : ℕ) : Type 0 where
  pub queue : some_late now ticket (queue_messages s.queue) ≡ false
  pub items : s.partial ≡ true → some_late now ticket (standing_messages (is_asleep s ticket) s.items) ≡ false
  pub tracks : s.partial ≡ true → some_late now ticket (rest_messages s.tracks) ≡ false

-- Each ticket that was given has its moment or is passed, and is idle before that.
pub record AreDue (s : Kept) (given : ℕ) : Type 0 where
  pub many : s.passed + length s.moments ≡ given
  pub each : (t now : ℕ) → now < due_at s.passed s.moments t → IsIdle s now t

-- ---- the moment of a message

-- the one that a message has, or the last
abbrev pub until_of : Arc MessageFields Global → ℕ
until_of m = unwrap_or m.value.until LAST_MOMENT

-- of the first so many entries: no message is passed over behind its own moment
abbrev pub AreWoken : (passed : ℕ) → (moments : List ℕ) → List EntryFields → (many : ℕ) → Type 0
AreWoken p ms es n = (k : ℕ) (d : EntryFields) → k < n → k < length es → p < (slice_index_or es k d).message.value.ticket → (slice_index_or es k d).message.value.ticket ≤ p + length ms
    → due_at p ms (slice_index_or es k d).message.value.ticket ≤ until_of (slice_index_or es k d).message

-- of what is left of a message, its moment
abbrev pub until_left : Option RestFields → Option ℕ
until_left None = None
until_left (Some r) = r.message.value.until

-- a message has the ticket, and this moment
abbrev pub HasUntil : (ticket : ℕ) → (until : Option ℕ) → Option Message → Type 0
HasUntil t until m = (has_ticket t m ≡ true) × (option_and_then (λ x. x.until) m ≡ until)

-- so it is with that of one of the entries
pub record IsItemUntil (ticket : ℕ) (until : Option ℕ) (xs : List Item) : Type 0 where
  pub at : ℕ
  pub item : Item
  pub there : slice_get xs at ≡ Some item
  pub has : HasUntil ticket until item.message

-- or with that of one in part
pub record IsRestUntil (ticket : ℕ) (until : Option ℕ) (ts : List Track) : Type 0 where
  pub at : ℕ
  pub track : Track
  pub there : slice_get ts at ≡ Some track
  pub has : HasUntil ticket until (rest_message track)

-- the moment of what is left of the message with a ticket, or nothing is left of one
abbrev pub IsLeftUntil : (ticket : ℕ) → (until : Option ℕ) → List Track → Type 0
IsLeftUntil t until ts = IsRestUntil t until ts ⊎ ((any_rest t ts ≡ false) × (until ≡ None))

-- one of these
abbrev pub IsUntilOf : (ticket : ℕ) → (until : Option ℕ) → List Item → List Track → Type 0
IsUntilOf t until xs ts = IsItemUntil t until xs ⊎ IsRestUntil t until ts

-- an entry of the message with a ticket isn't covered, or the message is in part, and this is its moment; or all of it is assigned and covered, and there is none
abbrev pub IsOpenUntil : (ticket : ℕ) → (until : Option ℕ) → List Item → List Track → Type 0
IsOpenUntil t until xs ts = (((not (any_rest t ts) && not (any_uncovered t xs)) ≡ false) × IsUntilOf t until xs ts) ⊎ (((not (any_rest t ts) && not (any_uncovered t xs)) ≡ true) × (until ≡ None))

-- ---- the next one

-- the lowest ticket above the last one whose message is past its time and may be abandoned
pub record IsNextLate (v : SenderView) (last now ticket : ℕ) : Type 0 where
  pub above : last < ticket
  pub given : ticket ≤ v.tickets
  pub late : is_to_expire v now ticket ≡ true
  pub before : (t : ℕ) → last < t → t < ticket → is_to_expire v now t ≡ false

-- that ticket, or there is none
abbrev pub NextLateAnswer : SenderView → (last now : ℕ) → Option ℕ → Type 0
NextLateAnswer v last now None = (t : ℕ) → last < t → is_to_expire v now t ≡ false
NextLateAnswer v last now (Some ticket) = IsNextLate v last now ticket

-- ---- what may be uncovered

-- an offset lies in a block
abbrev pub is_in_block : BlockMeaning → ℕ → Bool
is_in_block b i = nat_le (0 + b.start) i && nat_le i (0 + b.end)

-- What lies in the runs, seen from so many entries further on, lies in the blocks: nothing is uncovered by them.
abbrev pub LieIn : (passed : ℕ) → List CoveredRun → List BlockMeaning → Type 0
LieIn n rs bs = (i : ℕ) → 0 < i → in_runs (runs_behind n rs) i ≡ true → in_blocks 0 bs i ≡ true
