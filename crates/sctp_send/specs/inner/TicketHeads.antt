-- Walks over the entries above CUM in the order of their tickets.
use Rattle.std.specs.Prelude.{◌≡◌, ℕ, suc, ◌+◌, ◌-◌, ◌<◌, ◌≤◌, ◌⊎◌, Bool, true, false, if◌then◌else◌, nat_lt, List, length, slice_get, Some}
use Rattle.std.specs.List.Sorted.{IsNonDecreasingBy}
use Rattle.sctp_sequence.specs.Pairs.{first_of}
use Rattle.sctp_sequence.specs.declared.pairs.Pair.{Pair}
use Rattle.sctp_send.specs.declared.kept.heads.Heads.{Heads}
use Rattle.sctp_send.specs.declared.kept.heads.OwnEntries.{OwnEntries}
use Rattle.sctp_send.specs.declared.kept.heads.Step.{Step}
use Rattle.sctp_send.specs.inner.TicketOrder.{pair_at, offset_at}

-- Of so many first tickets this many are lower than one, and the others aren't.
pub record IsRankTo (ticket many : ℕ) (ts : List ℕ) (rank : ℕ) : Type 0 where
  pub within : rank ≤ many
  pub lower : (n t : ℕ) → n < rank → slice_get ts n ≡ Some t → t < ticket
  pub higher : (n t : ℕ) → rank ≤ n → n < many → slice_get ts n ≡ Some t → ticket ≤ t

-- ---- a message's entries

-- the offset of one of them
abbrev pub offset_in : (first : ℕ) → List Pair → OwnEntries → ℕ → ℕ
offset_in first ps o k = if nat_lt k o.front then o.from + k else offset_at first ps (o.rank + (k - o.front))

-- They are the entries of this ticket.
pub record IsOwn (ticket : ℕ) (ts : List ℕ) (first : ℕ) (ps : List Pair) (o : OwnEntries) : Type 0 where
  pub within : o.from + o.front + length ps ≤ length ts
  pub ranks : o.rank + o.many ≤ o.front + length ps
  pub right : (k : ℕ) → k < o.many → slice_get ts (offset_in first ps o k) ≡ Some ticket
  pub all : (n : ℕ) → slice_get ts n ≡ Some ticket → (k : ℕ) × (k < o.many) × (offset_in first ps o k ≡ n)

-- ---- a walk by ticket

-- A walk is within the entries, and the pairs rise by ticket.
pub record AreHeads (ts : List ℕ) (ps : List Pair) (h : Heads) : Type 0 where
  pub front : h.front + length ps ≤ length ts
  pub rank : h.rank ≤ length ps
  pub rising : IsNonDecreasingBy first_of ps

-- The walk has passed the entry at an offset.
abbrev pub IsPassed : (first : ℕ) → List Pair → Heads → (offset : ℕ) → Type 0
IsPassed first ps h n = (n < h.front) ⊎ ((k : ℕ) × (k < h.rank) × (offset_at first ps k ≡ n))

-- What it has not passed has tickets above one.
pub record AreLeft (last : ℕ) (ts : List ℕ) (ps : List Pair) (h : Heads) : Type 0 where
  pub front : (n t : ℕ) → h.front ≤ n → n + length ps < length ts → slice_get ts n ≡ Some t → last < t
  pub rank : (k : ℕ) → h.rank ≤ k → k < length ps → last < (pair_at ps k).first

-- It has passed the entries of tickets up to one, and no others.
pub record AreAbove (last : ℕ) (ts : List ℕ) (first : ℕ) (ps : List Pair) (h : Heads) : Type 0 where
  pub lower : (n t : ℕ) → slice_get ts n ≡ Some t → IsPassed first ps h n → t ≤ last
  pub higher : (n t : ℕ) → slice_get ts n ≡ Some t → IsPassed first ps h n ⊎ (last < t)
  pub left : AreLeft last ts ps h

-- The next entry without a pair has no higher ticket than the next pair; or there is none, or a lower one.
abbrev pub IsFrontLower : (ts : List ℕ) → List Pair → Heads → Bool → Type 0
IsFrontLower ts ps h true = (h.front + length ps < length ts) × ((t : ℕ) → slice_get ts h.front ≡ Some t → h.rank < length ps → t ≤ (pair_at ps h.rank).first)
IsFrontLower ts ps h false = (h.front + length ps < length ts) → (h.rank < length ps) × ((t : ℕ) → slice_get ts h.front ≡ Some t → (pair_at ps h.rank).first ≤ t)

-- What is passed next is an entry of the lowest ticket that is left.
pub record IsLower (ts : List ℕ) (first : ℕ) (ps : List Pair) (h : Heads) (s : Step) : Type 0 where
  pub ticket : ℕ
  pub there : slice_get ts s.offset ≡ Some ticket
  pub lowest : (n t : ℕ) → slice_get ts n ≡ Some t → IsPassed first ps h n ⊎ (ticket ≤ t)
  pub passed : (n : ℕ) → IsPassed first ps s.heads n → IsPassed first ps h n ⊎ (n ≡ s.offset)
  pub above : (last : ℕ) → AreLeft last ts ps h → (last < ticket) × AreLeft last ts ps s.heads
  pub one_more : s.heads.front + s.heads.rank ≡ suc (h.front + h.rank)
