-- What a SACK's acknowledgement, and that of a SHUTDOWN, do to a sender (RFC 9260, 6.2.1 and 9.2).
use Rattle.std.specs.Prelude.{ℕ, ◌+◌, nat_lt, nat_le, if◌then◌else◌, Bool, false, not, ◌&&◌, ◌||◌, List, [], ◌∷◌, length, Option, is_some}
use Rattle.std.specs.List.{list_any}
use Rattle.sctp_model.specs.wire.Chunk.{BlockMeaning, SackMeaning}
use Rattle.sctp_model.specs.numbers.Serial.{tsn, ahead, before}
use Rattle.sctp_model.specs.sender.SenderView.{SenderView}
use Rattle.sctp_model.specs.messages.Acknowledgement.{covers}
use Rattle.sctp_model.specs.sender.Words.{when, first_there}

-- why it isn't taken: it is older than what was acknowledged; it acknowledges what has no TSN yet; its blocks aren't in order
pub data SackFault : Type 0 where
  Stale Beyond BadBlock : SackFault

-- ---- its numbers, as indexes

-- a cumulative TSN is older than CUM if it is BEFORE the TSN of CUM
abbrev pub is_stale : SenderView → (cumulative : ℕ) → Bool
is_stale v wire = before 32 wire (tsn v.initial v.cum)

-- else its index is as far ahead of that of CUM
abbrev pub index_of : SenderView → (cumulative : ℕ) → ℕ
index_of v wire = v.cum + ahead 32 (tsn v.initial v.cum) wire

-- a block, counted from index c, ends past the last index assigned
abbrev pub some_ends_past : (last c : ℕ) → List BlockMeaning → Bool
some_ends_past last c blocks = list_any (λ b. nat_lt last (c + b.end)) blocks

-- the cumulative index, or a block's end, is past the last index assigned
abbrev pub is_beyond : SenderView → (c : ℕ) → List BlockMeaning → Bool
is_beyond v c blocks = nat_lt (length v.plan.entries) c || some_ends_past (length v.plan.entries) c blocks

-- a block that doesn't begin after this offset, or that ends before it begins
abbrev pub is_bad_after : (offset : ℕ) → BlockMeaning → Bool
is_bad_after offset b = nat_le b.start offset || nat_lt b.end b.start

-- one of the blocks is bad after the one before it, the first one after the cumulative index
abbrev pub some_is_bad : (offset : ℕ) → List BlockMeaning → Bool
some_is_bad offset [] = false
some_is_bad offset (b ∷ bs) = is_bad_after offset b || some_is_bad b.end bs

-- ---- what is covered

-- CUM moves here, and just these indexes are covered from now on: so an index may be uncovered again. A covered one needs no repeating.
abbrev pub covered_by : SenderView → (cum : ℕ) → (covered : ℕ → Bool) → SenderView
covered_by v cum covered = record v { cum = cum; covered = covered; marked = λ i. v.marked i && not (covered i) }

-- what a SACK covers: the indexes up to its cumulative one, and those of its blocks
abbrev pub sack_covers : (c : ℕ) → List BlockMeaning → ℕ → Bool
sack_covers c blocks = covers (record { cum = c; blocks = blocks })

-- ---- a SACK

-- The first of these faults that it has.
abbrev pub sack_fault : SenderView → SackMeaning → Option SackFault
sack_fault v x = first_there (
    when (is_stale v x.cumulative) Stale
    ∷ when (is_beyond v (index_of v x.cumulative) x.blocks) Beyond
    ∷ when (some_is_bad 0 x.blocks) BadBlock
    ∷ [])

-- the view that has taken it
abbrev pub sack_taken : SenderView → SackMeaning → SenderView
sack_taken v x = let c = index_of v x.cumulative in record (covered_by v c (sack_covers c x.blocks)) { rwnd = x.rwnd }

-- The view after it arrived: one with a fault changes nothing.
abbrev pub sack_after : SenderView → SackMeaning → SenderView
sack_after v x = if is_some (sack_fault v x) then v else sack_taken v x

-- ---- a SHUTDOWN, which says a cumulative TSN alone

-- the first of these faults that it has
abbrev pub shutdown_fault : SenderView → (cumulative : ℕ) → Option SackFault
shutdown_fault v wire = first_there (when (is_stale v wire) Stale ∷ when (is_beyond v (index_of v wire) []) Beyond ∷ [])

-- The view that has taken it: all up to its index is covered, and what lay covered beyond stays so.
abbrev pub shutdown_taken : SenderView → (cumulative : ℕ) → SenderView
shutdown_taken v wire = covered_by v (index_of v wire) (λ i. nat_le i (index_of v wire) || v.covered i)

-- the view after it arrived
abbrev pub shutdown_after : SenderView → (cumulative : ℕ) → SenderView
shutdown_after v wire = if is_some (shutdown_fault v wire) then v else shutdown_taken v wire
