-- What is counted of entries, of messages that wait, and of streams.
use Rattle.std.specs.Prelude.{◌≡◌, ℕ, suc, Bool, not, ◌==◌, ◌&&◌, ◌+◌, ◌-◌, ◌%◌, ◌^◌, ◌<◌, ◌≤◌, min, if◌then◌else◌, List, [], ◌∷◌, map, take, length, Option, None, Some, unwrap_or}
use Rattle.sctp_model.specs.numbers.Limits.{LAST_MOMENT}
use Rattle.sctp_model.specs.messages.Plan.{Message}
use Rattle.sctp_send.specs.SenderKept.{Item}
use Rattle.sctp_send.specs.OutstandingFields.{item_meaning}
use Rattle.sctp_send.specs.SenderFields.{track_meaning}
use Rattle.sctp_send.specs.inner.Wishing.{first_offset, is_item_marked, is_item_unsent, item_weight, item_flight, item_chunk, item_chunks}
use Rattle.sctp_send.specs.inner.Walks.{total, one_if_rest, rest_owes, abandoned_items, is_item_unsettled}
use Rattle.sctp_send.specs.inner.Newcomers.{one_if}
use Rattle.sctp_send.specs.declared.kept.counts.Counts.{Counts}
use Rattle.sctp_send.specs.declared.kept.entry.Entry.{Entry as EntryFields}
use Rattle.sctp_send.specs.declared.kept.track.Track.{Track as TrackFields}

-- ---- moments

-- the moment from which a message is worthless, or the last one
abbrev pub moment_from : Option Message → ℕ
moment_from None = LAST_MOMENT
moment_from (Some m) = unwrap_or m.until LAST_MOMENT

-- ---- entries

-- how many of the items went out, and are neither covered nor abandoned
abbrev pub count_unsettled : List Item → ℕ
count_unsettled [] = 0
count_unsettled (x ∷ xs) = one_if (is_item_unsettled x) + count_unsettled xs

-- one item more is counted
abbrev pub entered : Item → Counts → Counts
entered x c = record c {
  flight = (c.flight + item_weight x) % 2 ^ 64;
  chunks = (c.chunks + item_chunk c.header x) % 2 ^ 64;
  unsettled = (c.unsettled + one_if (is_item_unsettled x)) % 2 ^ 64;
}

-- an item is counted no more
abbrev pub left : Item → Counts → Counts
left x c = record c {
  flight = (c.flight + (2 ^ 64 - item_weight x)) % 2 ^ 64;
  chunks = (c.chunks + (2 ^ 64 - item_chunk c.header x)) % 2 ^ 64;
  unsettled = (c.unsettled + (2 ^ 64 - one_if (is_item_unsettled x))) % 2 ^ 64;
}

-- an item at an offset may have to go out
abbrev pub lowered : (at : ℕ) → Item → Counts → Counts
lowered at x c = record c {
  marked = if is_item_marked x then min c.marked at else c.marked;
  unsent = if is_item_unsent x then min c.unsent at else c.unsent;
}

-- a cursor, or one past an offset that it has reached, where that doesn't count
abbrev pub furthest : (at : ℕ) → Bool → (cursor : ℕ) → ℕ
furthest at counts cursor = if (cursor == at) && not counts then suc at else cursor

-- an item comes at an offset, behind all others
abbrev pub reached : (at : ℕ) → Item → Counts → Counts
reached at x c = record c {
  marked = furthest at (is_item_marked x) c.marked;
  unsent = furthest at (is_item_unsent x) c.unsent;
  front = furthest at (not x.abandoned) c.front;
}

-- The counts are those of the entries: before two offsets nothing is to go out; the sums are modulo 2^64.
pub record IsCounted (size : ℕ) (es : List EntryFields) (c : Counts) : Type 0 where
  pub some : 0 < size
  pub small : size < 2 ^ 16
  pub low : c.header < 2 ^ 16
  pub marked : first_offset is_item_marked (take c.marked (map (item_meaning size) es)) ≡ None
  pub marked_within : c.marked ≤ length es
  pub unsent : first_offset is_item_unsent (take c.unsent (map (item_meaning size) es)) ≡ None
  pub unsent_within : c.unsent ≤ length es
  pub flight : c.flight ≡ item_flight (map (item_meaning size) es) % 2 ^ 64
  pub chunks : c.chunks ≡ item_chunks c.header (map (item_meaning size) es) % 2 ^ 64
  pub unsettled : c.unsettled ≡ count_unsettled (map (item_meaning size) es) % 2 ^ 64
  pub front : c.front ≡ abandoned_items (map (item_meaning size) es)

-- ---- messages that wait, and streams

-- how many messages are in part, and what they may take
pub record IsCountedOf (size : ℕ) (ts : List TrackFields) (many sum : ℕ) : Type 0 where
  pub some : 0 < size
  pub few : length ts < 2 ^ 16
  pub parts : many ≡ total (λ t. one_if_rest t.rest) (map (track_meaning size) ts) % 2 ^ 32
  pub owed : sum ≡ total (λ t. rest_owes t.rest) (map (track_meaning size) ts) % 2 ^ 64
