-- What chains leave when fragments go.
use Rattle.std.specs.Prelude.{◌≡◌, ℕ, suc, ◌-◌, ◌<◌, ◌≤◌, not, ◌&&◌, nat_le, Bool, List, length, get_or, take, drop, filter, None}
use Rattle.sctp_model.specs.numbers.Lists.{Has}
use Rattle.sctp_chains.specs.Same.{total}
use Rattle.sctp_chains.specs.Cells.{Cell}
use Rattle.sctp_chains.specs.Links.{ChainKept, cells_of, IsChain, AreChains}

-- the bytes of fragments
abbrev pub size_of_cells : List Cell → ℕ
size_of_cells xs = total (λ (x : Cell). length x.bytes) xs

-- the bytes of all parts
abbrev pub size_of_parts : List (List ℕ) → ℕ
size_of_parts bs = total (λ (b : List ℕ). length b) bs

-- the rank lies outside these two
abbrev pub is_outside : (low high rank : ℕ) → Bool
is_outside low high r = not (nat_le low r && nat_le r high)

-- the fragments of ranks that pass the test
abbrev pub passing : (ℕ → Bool) → List Cell → List Cell
passing test xs = filter (λ (x : Cell). test x.rank) xs

-- Of the fragments those stay whose ranks pass the test, and their bytes are counted.
pub record Leaves (test : ℕ → Bool) (old new : List ChainKept) (before after : ℕ) : Type 0 where
  pub chains : AreChains new
  pub cells : cells_of new ≡ passing test (cells_of old)
  pub held : before ≡ size_of_cells (cells_of old) → after ≡ size_of_cells (cells_of new)

-- The chains before place k end below a rank, and none behind begins below it.
pub record IsCut (low : ℕ) (cs : List ChainKept) (k : ℕ) : Type 0 where
  pub front : (c : ChainKept) → Has (take k cs) c → c.last < low
  pub back : (c : ChainKept) → Has (drop k cs) c → low ≤ c.first

-- from place k on, what has a rank up to this one goes
abbrev pub LetsGo : (high k : ℕ) → (old new : List ChainKept) → (held left : ℕ) → Type 0
LetsGo high k old new held left = AreChains old → (low : ℕ) → IsCut low old k → Leaves (is_outside low high) old new held left

-- the chain at place k is taken out
pub record Removes (k : ℕ) (old new : List ChainKept) (held left : ℕ) (c : ChainKept) : Type 0 where
  pub here : (d : ChainKept) → k < length old → get_or old k d ≡ c
  pub leaves : AreChains old → k < length old → Leaves (is_outside c.first c.last) old new held left
  pub rest : AreChains old → k < length old → IsCut c.first new k

-- the fragments of a chain behind a rank
abbrev pub trimmed : (high : ℕ) → ChainKept → ChainKept
trimmed high c = record { first = suc high; last = c.last; head = None; ends = c.ends; parts = drop (suc (high - c.first)) c.parts }

-- a chain keeps the fragments behind a rank of its own
abbrev pub Trims : (high : ℕ) → (old new : ChainKept) → (held left : ℕ) → Type 0
Trims high old new held left = IsChain old → old.first ≤ high → high < old.last →
    (new ≡ trimmed high old) × (left ≡ held - size_of_parts (take (suc (high - old.first)) old.parts))
