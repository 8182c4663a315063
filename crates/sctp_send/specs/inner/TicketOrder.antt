-- The entries above CUM in the order of their tickets.
use Rattle.std.specs.Prelude.{◌≡◌, ℕ, ◌+◌, ◌-◌, ◌%◌, ◌^◌, ◌<◌, ◌≤◌, List, [], ◌∷◌, length, map, drop, slice_get, slice_index_or, Some}
use Rattle.sctp_sequence.specs.Pairs.{AreSame}
use Rattle.sctp_sequence.specs.declared.pairs.Pair.{Pair}
use Rattle.sctp_send.specs.declared.kept.by_ticket.ByTicket.{ByTicket}
use Rattle.sctp_send.specs.declared.kept.counts.Counts.{Counts}
use Rattle.sctp_send.specs.declared.kept.entry.Entry.{Entry as EntryFields}
use Rattle.sctp_send.specs.inner.Counting.{IsCounted}
use Rattle.sctp_send.specs.inner.Stretching.{AreKnown}
use Rattle.sctp_send.specs.declared.kept.stretches.Stretch.{Stretch}

-- the offset of a pair's entry, where the first entry has this index
abbrev pub offset_of : (first : ℕ) → Pair → ℕ
offset_of first p = (p.second + (2 ^ 64 - first)) % 2 ^ 64

-- the pairs of entries with these tickets, where the first entry has this index: ticket and index
abbrev pub pairs_from : (index : ℕ) → (tickets : List ℕ) → List Pair
pairs_from i [] = []
pairs_from i (t ∷ ts) = record { first = t; second = i } ∷ pairs_from ((i + 1) % 2 ^ 64) ts

-- The pairs are those of entries with these tickets, in any order.
pub record ArePairsOf (tickets : List ℕ) (first : ℕ) (ps : List Pair) : Type 0 where
  pub small : first < 2 ^ 64
  pub same : AreSame ps (pairs_from first tickets)

-- a pair of no entry
abbrev pub no_pair : Pair
no_pair = record { first = 0; second = 0 }

-- the pair at a rank
abbrev pub pair_at : List Pair → (rank : ℕ) → Pair
pair_at ps k = slice_index_or ps k no_pair

-- the offset of its entry
abbrev pub offset_at : (first : ℕ) → List Pair → (rank : ℕ) → ℕ
offset_at first ps k = offset_of first (pair_at ps k)

-- The tickets of so many entries rise, or stay.
abbrev pub AreRisingTo : (many : ℕ) → (tickets : List ℕ) → Type 0
AreRisingTo n ts = (i j t u : ℕ) → i ≤ j → j < n → slice_get ts i ≡ Some t → slice_get ts j ≡ Some u → t ≤ u

-- So many of the entries with these tickets rise by ticket; those after them have pairs. If there are no pairs, no ticket is above `last`.
pub record IsOrderOf (tickets : List ℕ) (o : ByTicket) : Type 0 where
  pub unpaired : ℕ
  pub whole : unpaired + length o.pairs.items ≡ length tickets
  pub small : o.first < 2 ^ 64
  pub rising : AreRisingTo unpaired tickets
  pub pairs : ArePairsOf (drop unpaired tickets) ((o.first + unpaired) % 2 ^ 64) o.pairs.items
  pub last : length o.pairs.items ≡ 0 → (k t : ℕ) → slice_get tickets k ≡ Some t → t ≤ o.last

-- the ticket of an entry's message
abbrev pub ticket_of : EntryFields → ℕ
ticket_of e = e.message.value.ticket

-- the tickets of entries
abbrev pub tickets_of : List EntryFields → List ℕ
tickets_of es = map ticket_of es

-- What is kept of the outstanding: the entries counted, and in the order of their tickets, with room for so many in both; and what is known
-- of stretches.
pub record IsInOrder (size : ℕ) (es : List EntryFields) (capacity : ℕ) (c : Counts) (o : ByTicket) (room : ℕ) (ss : List Stretch) : Type 0 where
  pub counted : IsCounted size es c
  pub order : IsOrderOf (tickets_of es) o
  pub within : length es ≤ room
  pub here : room ≤ capacity
  pub there : room ≤ o.pairs.capacity
  pub known : AreKnown c.header size o.first ss es
