-- What searches among chains find.
use Rattle.std.specs.Prelude.{◌≡◌, ℕ, ◌<◌, ◌≤◌, ◌⊎◌, true, false, List, length, get_or, take, drop, Option, Some, None}
use Rattle.sctp_model.specs.numbers.Lists.{Has}
use Rattle.sctp_chains.specs.Links.{ChainKept, is_whole}
use Rattle.sctp_chains.specs.declared.search.Found.{Found}

-- So many chains at the front begin below a rank, and none behind them does.
pub record IsStart (rank : ℕ) (cs : List ChainKept) (k : ℕ) : Type 0 where
  pub front : (c : ChainKept) → Has (take k cs) c → c.first < rank
  pub back : (c : ChainKept) → Has (drop k cs) c → rank ≤ c.first

-- the chain has the rank
abbrev pub IsIn : ℕ → ChainKept → Type 0
IsIn r c = (c.first ≤ r) × (r ≤ c.last)

-- a whole chain at this place, with its head
pub record IsWholeAt (cs : List ChainKept) (w : Found) (c : ChainKept) : Type 0 where
  pub within : w.at < length cs
  pub here : (d : ChainKept) → get_or cs w.at d ≡ c
  pub ends : c.ends ≡ true
  pub head : c.head ≡ Some w.head

-- the chain at a place, if it is whole
abbrev pub IsWholeHere : List ChainKept → ℕ → Option Found → Type 0
IsWholeHere cs k None = (c : ChainKept) → c ≡ get_or cs k c → is_whole c ≡ false
IsWholeHere cs k (Some w) = (w.at ≡ k) × ((c : ChainKept) × IsWholeAt cs w c)

-- the whole chain that has a rank, or that none has it
abbrev pub IsWholeWithRank : List ChainKept → ℕ → Option Found → Type 0
IsWholeWithRank cs r None = (c : ChainKept) → Has cs c → IsIn r c → is_whole c ≡ false
IsWholeWithRank cs r (Some w) = (c : ChainKept) × IsWholeAt cs w c × IsIn r c

-- the first k chains are open: none of them is whole
abbrev pub AreOpen : (k : ℕ) → List ChainKept → Type 0
AreOpen k cs = (c : ChainKept) → Has (take k cs) c → is_whole c ≡ false

-- From place b to place k no chain is whole, and what lies behind k lies behind b.
pub record IsOver (cs : List ChainKept) (b k : ℕ) : Type 0 where
  pub between : (c : ChainKept) → Has (take k cs) c → Has (take b cs) c ⊎ (is_whole c ≡ false)
  pub behind : (c : ChainKept) → Has (drop k cs) c → Has (drop b cs) c

-- Place k is the first from place b on whose chain is whole or begins past a rank, or no chain stands there.
pub record IsStop (last : ℕ) (cs : List ChainKept) (b k : ℕ) : Type 0 where
  pub over : IsOver cs b k
  pub here : (c : ChainKept) → k < length cs → c ≡ get_or cs k c → c.first ≤ last → is_whole c ≡ true

-- the first whole chain that begins within these ranks, or that none does
abbrev pub IsFirstWhole : List ChainKept → (from last : ℕ) → Option Found → Type 0
IsFirstWhole cs from last None = (c : ChainKept) → Has cs c → from ≤ c.first → c.first ≤ last → is_whole c ≡ false
IsFirstWhole cs from last (Some w) =
    (c : ChainKept) × IsWholeAt cs w c × (from ≤ c.first) × (c.first ≤ last)
    × ((d : ChainKept) → Has cs d → from ≤ d.first → d.first < c.first → is_whole d ≡ false)
