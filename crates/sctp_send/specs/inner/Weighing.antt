-- What congestion control asks of the items above CUM (RFC 9260, 6.1, 6.3.1 and 7.2).
use Rattle.std.specs.Prelude.{◌≡◌, ℕ, zero, suc, ◌+◌, ◌-◌, ◌<◌, ◌≤◌, ◌%◌, ◌^◌, nat_le, Bool, true, false, not, ◌&&◌, ◌||◌, if◌then◌else◌, List, [], ◌∷◌, length, slice_get, Option, None, Some}
use Rattle.std.specs.Option.{option_map_or}
use Rattle.sctp_model.specs.wire.Chunk.{padded, BlockMeaning}
use Rattle.sctp_model.specs.end.Control.{whole}
use Rattle.sctp_model.specs.messages.Format.{Format}
use Rattle.sctp_model.specs.messages.Framing.{header_of}
use Rattle.sctp_model.specs.sender.SenderView.{SenderView}
use Rattle.sctp_model.specs.sender.Words.{some_passes, sum_below, last_that}
use Rattle.sctp_model.specs.sender.SackTaken.{sack_covers}
use Rattle.sctp_send.specs.SenderKept.{Item}
use Rattle.sctp_send.specs.CoveredRuns.{in_runs}
use Rattle.sctp_send.specs.declared.kept.entry.CoveredRun.{CoveredRun}
use Rattle.sctp_send.specs.declared.pace.tally.Tally.{Tally}
use Rattle.sctp_send.specs.inner.Walks.{is_item_unsettled}
use Rattle.sctp_send.specs.inner.Wishing.{first_offset, is_item_marked, item_bytes}
use Rattle.sctp_send.specs.inner.Testing.{index_of}

-- ---- one item

-- it is in flight
abbrev pub is_item_flying : Item → Bool
is_item_flying x = not x.marked && is_item_unsettled x

-- it waits for retransmission, or is acknowledged
abbrev pub is_item_done : Item → Bool
is_item_done x = x.marked || x.covered

-- it was sent
abbrev pub is_item_sent : Item → Bool
is_item_sent x = x.sent

-- a gap block acknowledges it
abbrev pub is_item_closed : Item → Bool
is_item_closed x = x.covered

-- it was sent, and a gap block acknowledges it
abbrev pub is_item_acked : Item → Bool
is_item_acked x = x.sent && x.covered

-- its message was abandoned
abbrev pub is_item_given_up : Item → Bool
is_item_given_up x = x.abandoned

-- no gap block acknowledges it
abbrev pub is_item_open : Item → Bool
is_item_open x = not x.covered

-- it was sent, and no gap block acknowledges it
abbrev pub is_item_news : Item → Bool
is_item_news x = x.sent && not x.covered

-- the bytes of one that is outstanding
abbrev pub unsettled_bytes : Item → ℕ
unsettled_bytes x = if is_item_unsettled x then length (item_bytes x) else 0

-- the bytes of its chunk
abbrev pub unsettled_chunk : (header : ℕ) → Item → ℕ
unsettled_chunk header x = whole header (unsettled_bytes x)

-- the item at an offset passes
abbrev pub passes_here : (Item → Bool) → List Item → ℕ → Bool
passes_here test xs k = some_passes test (slice_get xs k)

-- the item at an offset is in flight, and its index passes
abbrev pub flies_and_passes : (says : ℕ → Bool) → (cum : ℕ) → List Item → ℕ → Bool
flies_and_passes says cum xs k = passes_here is_item_flying xs k && says (index_of cum k)

-- the item at an offset was sent, a gap block acknowledges it, and a SACK whose cumulative TSN passes so many entries, with these blocks, doesn't
abbrev pub is_uncovered : List Item → (passed : ℕ) → List BlockMeaning → ℕ → Bool
is_uncovered xs n bs k = passes_here is_item_acked xs k && not (sack_covers n bs (suc k))

-- ---- the first that passes

-- from one offset on, below another, this is the first that passes
pub record IsFirst (on : ℕ → Bool) (lo hi at : ℕ) : Type 0 where
  pub above : lo ≤ at
  pub below : at < hi
  pub passes : on at ≡ true
  pub before : (k : ℕ) → lo ≤ k → k < at → on k ≡ false

-- that one, or none passes
abbrev pub FirstAnswer : (on : ℕ → Bool) → (lo hi : ℕ) → Option ℕ → Type 0
FirstAnswer on lo hi None = (k : ℕ) → lo ≤ k → k < hi → on k ≡ false
FirstAnswer on lo hi (Some at) = IsFirst on lo hi at

-- ---- what is newly acknowledged, by offsets counted from 1

-- the item at an offset that is acknowledged now was sent, and was not acknowledged
abbrev pub is_news : List Item → (on : ℕ → Bool) → ℕ → Bool
is_news xs on j = on j && passes_here is_item_news xs (j - 1)

-- the bytes of its chunk, by its offset counted from 0
abbrev pub news_weight : (header : ℕ) → List Item → (on : ℕ → Bool) → ℕ → ℕ
news_weight header xs on k = if on (suc k) then option_map_or (unsettled_chunk header) (slice_get xs k) 0 else 0

-- An offset at which nothing is newly acknowledged.
abbrev pub IsIdle : List Item → (on : ℕ → Bool) → ℕ → Type 0
IsIdle xs on j = (on j && passes_here is_item_open xs (j - 1)) ≡ false

-- The sums over the first items; the bytes of chunks modulo 2^64.
pub record IsTally (header : ℕ) (xs : List Item) (on : ℕ → Bool) (t : Tally) : Type 0 where
  pub bytes : t.bytes ≡ sum_below (news_weight header xs on) t.at % 2 ^ 64
  pub last : t.newest ≡ last_that (is_news xs on) t.at

-- There are so many items, nothing waits for retransmission, so that all that is outstanding is in flight, and the last item is news.
pub record AreFlying (count : ℕ) (xs : List Item) : Type 0 where
  pub some : 0 < count
  pub all : count ≡ length xs
  pub unmarked : first_offset is_item_marked xs ≡ None
  pub last : passes_here is_item_news xs (count - 1) ≡ true

-- the items in these runs are acknowledged by gap blocks
abbrev pub LieCovered : List CoveredRun → List Item → Type 0
LieCovered rs xs = (j : ℕ) → 0 < j → in_runs rs j ≡ true → passes_here is_item_open xs (j - 1) ≡ false

-- All that is newly acknowledged is in the sums, and the last offset that is acknowledged then is this one.
pub record IsTallied (header : ℕ) (xs : List Item) (on : ℕ → Bool) (t : Tally) : Type 0 where
  pub tally : IsTally header xs on t
  pub here : on t.at ≡ true
  pub beyond : (j : ℕ) → t.at < j → on j ≡ false

-- `u` is `v` after an acknowledgement that passes so many entries; what it acknowledges above CUM is told by offsets counted from 1.
pub record IsAfter (v u : SenderView) (on : ℕ → Bool) (passed : ℕ) : Type 0 where
  pub cum : u.cum ≡ v.cum + passed
  pub covered : (j : ℕ) → 0 < j → u.covered (v.cum + j) ≡ on j
  pub passes : on passed ≡ true
  pub within : (i : ℕ) → length v.plan.entries < i → u.covered i ≡ false

-- the index at an offset above CUM, counted from 1; 0 for 0
abbrev pub index_above : (cum offset : ℕ) → ℕ
index_above cum zero = 0
index_above cum (suc j) = cum + suc j

-- ---- the space of retransmissions

-- the space that an item's chunk takes
abbrev pub item_room : Format → Item → ℕ
item_room f x = padded (header_of f + length (item_bytes x))

-- the space that the items marked for retransmission take, one after the other, as long as they fit
abbrev pub repeats_room : Format → (room : ℕ) → List Item → ℕ
repeats_room f room [] = 0
repeats_room f room (x ∷ xs) =
    if x.marked then (if nat_le (item_room f x) room then item_room f x + repeats_room f (room - item_room f x) xs else 0)
    else repeats_room f room xs

-- the offsets of those, from one on
abbrev pub repeats_from : Format → (room at : ℕ) → List Item → List ℕ
repeats_from f room k [] = []
repeats_from f room k (x ∷ xs) =
    if x.marked then (if nat_le (item_room f x) room then k ∷ repeats_from f (room - item_room f x) (suc k) xs else [])
    else repeats_from f room (suc k) xs
