-- What takes an index next, among what is kept, and what is kept then (RFC 9260, 6.9; RFC 8260, 2.2.2 and 3.2).
use Rattle.std.specs.Prelude.{◌≡◌, ℕ, zero, suc, ◌-◌, ◌<◌, ◌≤◌, ◌⊎◌, min, nat_lt, if◌then◌else◌, Bool, true, false, List, [], ◌∷◌, ◌++◌, length, take, drop, slice_get, slice_set, Option, None, Some, option_and_then}
use Rattle.std.specs.Prelude.{slice_index_or}
use Rattle.sctp_model.specs.messages.Format.{Format, Kind, Ordered, Unordered, Lane}
use Rattle.sctp_model.specs.messages.Plan.{Message, Entry, Part, End}
use Rattle.sctp_model.specs.sender.SenderView.{Queued, SenderView}
use Rattle.sctp_model.specs.sender.Words.{when}
use Rattle.sctp_model.specs.sender.Entries.{fragments_in, continued}
use Rattle.sctp_model.specs.sender.Assigning.{with_message, is_on, first_on, without_first, stream_after, going_on, beginning, turn_of, assigned}
use Rattle.sctp_send.specs.SenderKept.{Item, Rest, Track, Kept}
use Rattle.sctp_send.specs.declared.kept.message.Fate.TheVariants.{Numbered}

-- ---- items

-- how often a fragment was retransmitted once it goes out, by whether it went out already
abbrev pub repeats_after : (sent : Bool) → (repeats : ℕ) → ℕ
repeats_after sent n = if sent then min (suc n) 65535 else n

-- the item went out
abbrev pub gone_item : Item → Item
gone_item x = record x { sent = true; marked = false; repeats = repeats_after x.sent x.repeats }

-- a fragment that never went out
abbrev pub new_item : Entry → Message → Item
new_item e m = record { entry = e; message = Some m; sent = false; marked = false; covered = false; abandoned = false; repeats = 0 }

-- so many fragments of a message, from one on
abbrev pub new_items : Lane → (number : ℕ) → Message → (from many : ℕ) → List Item
new_items l n m k zero = []
new_items l n m k (suc d) = new_item (Part l n k) m ∷ new_items l n m (suc k) d

-- so many first fragments of a message: the very first went out
abbrev pub begun_items : Lane → (number : ℕ) → Message → (count : ℕ) → List Item
begun_items l n m zero = []
begun_items l n m (suc d) = gone_item (new_item (Part l n 0) m) ∷ new_items l n m 1 d

-- the item of a rest's fragment
abbrev pub rest_item : Rest → Item
rest_item r = record { entry = r.entry; message = r.message; sent = false; marked = false; covered = false; abandoned = false; repeats = 0 }

-- ---- streams

-- the number that the next message of this kind takes
abbrev pub number_in : Kind → Track → ℕ
number_in Ordered t = t.ordered
number_in Unordered t = t.unordered

-- it took it
abbrev pub counted_in : Kind → Track → Track
counted_in Ordered t = record t { ordered = suc t.ordered }
counted_in Unordered t = record t { unordered = suc t.unordered }

-- and its stream goes on with what is left of it
abbrev pub begun_track : Queued → (d : ℕ) → Track → Track
begun_track q d t = record (counted_in q.lane.kind t) { rest = when (nat_lt d (length q.message.fragments)) (record { entry = Part q.lane (number_in q.lane.kind t) d; message = Some q.message }) }

-- what is left behind this fragment
abbrev pub rest_after : Entry → Option Message → Option Rest
rest_after (Part l n k) m = when (nat_lt (suc k) (length (fragments_in m))) (record { entry = Part l n (suc k); message = m })
rest_after (End l n) m = None

-- ---- what is found

-- what is left of the message in part of a stream
abbrev pub rest_at : List Track → (stream : ℕ) → Option Rest
rest_at ts j = option_and_then (λ t. t.rest) (slice_get ts j)

-- there is one
abbrev pub has_rest : Option Rest → Bool
has_rest None = false
has_rest (Some r) = true

-- the first of some streams with a message in part, or the one behind them
pub record IsNextPart (from below : ℕ) (ts : List Track) (next : ℕ) : Type 0 where
  pub before : (j : ℕ) → from ≤ j → j < next → has_rest (rest_at ts j) ≡ false
  pub here : next < below → (from ≤ next) × (has_rest (rest_at ts next) ≡ true)
  pub within : next ≤ below

-- one where it is so
abbrev pub one_if : Bool → ℕ
one_if true = 1
one_if false = 0

-- a queue without the message at a place
abbrev pub without_place : (place : ℕ) → List Queued → List Queued
without_place at qs = take at qs ++ drop (suc at) qs

-- the message that has waited longest on a stream stands at this place
pub record IsFirstOn (stream place : ℕ) (qs : List Queued) : Type 0 where
  pub message : Queued
  pub first : first_on stream qs ≡ Some message
  pub there : slice_get qs place ≡ Some message
  pub rest : without_first (is_on stream) qs ≡ without_place place qs

-- that place, or there is none
abbrev pub FirstOnAnswer : (stream : ℕ) → List Queued → Option ℕ → Type 0
FirstOnAnswer stream qs None = first_on stream qs ≡ None
FirstOnAnswer stream qs (Some place) = IsFirstOn stream place qs

-- a message begins: the one at this place takes its number, and so many of its fragments their indexes
pub record IsBegun (f : Format) (v : SenderView) (place count turn : ℕ) : Type 0 where
  pub message : Queued
  pub less : ℕ
  pub there : slice_get v.queue place ≡ Some message
  pub some : count ≡ suc less
  -- it waited longest, of all or of its stream
  pub first : (v.queue ≡ message ∷ without_place place v.queue) ⊎ ((first_on message.lane.stream v.queue ≡ Some message) × (without_first (is_on message.lane.stream) v.queue ≡ without_place place v.queue))
  pub assigned : assigned f v ≡ Some (record v { plan = with_message v.plan message count; queue = without_place place v.queue; turn = turn })

-- the message in part of a stream goes on
pub record IsContinued (f : Format) (v : SenderView) (stream : ℕ) : Type 0 where
  pub entry : Entry
  pub low : stream < v.streams
  pub on : continued v.plan stream ≡ Some entry
  pub assigned : assigned f v ≡ Some (going_on v stream entry)

-- the same of one stream in its turn: a message begins
pub record IsTurnBegun (v : SenderView) (stream place count turn : ℕ) : Type 0 where
  pub message : Queued
  pub there : slice_get v.queue place ≡ Some message
  pub first : first_on stream v.queue ≡ Some message
  pub rest : without_first (is_on stream) v.queue ≡ without_place place v.queue
  pub one : count ≡ 1
  pub next : turn ≡ stream_after v stream
  pub does : turn_of v stream ≡ Some (beginning v stream message)

-- or its message in part goes on
pub record IsTurnContinued (v : SenderView) (stream : ℕ) : Type 0 where
  pub entry : Entry
  pub on : continued v.plan stream ≡ Some entry
  pub does : turn_of v stream ≡ Some (going_on v stream entry)

-- ---- what is kept then

-- a stream that has given no number, and has nothing in part
abbrev pub fresh_track : Track
fresh_track = record { ordered = 0; unordered = 0; rest = None }

-- the track of a stream
abbrev pub track_of : List Track → (stream : ℕ) → Track
track_of ts j = slice_index_or ts j fresh_track

-- the number that the next message of a lane takes
abbrev pub number_on : List Track → Lane → ℕ
number_on ts l = number_in l.kind (track_of ts l.stream)

-- A message took its number, and so many of its fragments their indexes; the very first of them went out.
abbrev pub begun : Kept → Queued → (place count turn capacity : ℕ) → Kept
begun s q place count turn capacity = record s {
  items = s.items ++ begun_items q.lane (number_on s.tracks q.lane) q.message count;
  queue = without_place place s.queue;
  tracks = slice_set s.tracks q.lane.stream (begun_track q count (track_of s.tracks q.lane.stream));
  fates = slice_set s.fates (q.message.ticket - 1) Numbered;
  turn = turn;
  capacity = capacity;
}

-- The message in part of a stream took its next index, and its fragment went out.
abbrev pub gone_on : Kept → Rest → (stream turn capacity : ℕ) → Kept
gone_on s r stream turn capacity = record s {
  items = s.items ++ gone_item (rest_item r) ∷ [];
  tracks = slice_set s.tracks stream (record (track_of s.tracks stream) { rest = rest_after r.entry r.message });
  turn = turn;
  capacity = capacity;
}
