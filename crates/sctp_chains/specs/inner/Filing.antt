-- A fragment is filed.
use Rattle.std.specs.Prelude.{◌≡◌, ℕ, suc, ◌+◌, ◌-◌, ◌<◌, ◌≤◌, true, false, List, ◌++◌, length, get_or, set, take, drop, Option, Some, None}
use Rattle.std.specs.List.{remove}
use Rattle.std.specs.VecDeque.{deque_len, deque_capacity}
use Rattle.sctp_model.specs.numbers.Lists.{Has}
use Rattle.sctp_chains.specs.Same.{AreSame}
use Rattle.sctp_chains.specs.Cells.{Cell}
use Rattle.sctp_chains.specs.declared.chain.Chain.{Chain}
use Rattle.sctp_chains.specs.declared.chain.Part.{Part}
use Rattle.sctp_chains.specs.declared.parts.Parts.{Parts}
use Rattle.sctp_chains.specs.declared.parts.Parts.TheVariants.{One, Many}
use Rattle.sctp_chains.specs.Links.{ChainKept, parts_in, chain_of, one_of, cells_in, cells_of, is_linked, join, one_if_whole, IsChain, AreChains}
use Rattle.sctp_chains.specs.inner.Finding.{AreOpen}

-- So many chains at the front lie below a rank, and none behind them does.
pub record IsPlace (rank : ℕ) (cs : List ChainKept) (k : ℕ) : Type 0 where
  pub front : (c : ChainKept) → Has (take k cs) c → c.last < rank
  pub back : (c : ChainKept) → Has (drop k cs) c → rank ≤ c.last

-- no fragment has the rank
abbrev pub Avoids : (rank : ℕ) → List ChainKept → Type 0
Avoids r cs = (x : Cell) → Has (cells_of cs) x → x.rank ≡ r → ⊥

-- the chain before place k that the fragment continues, or that there is none
abbrev pub IsLinkBefore : List ChainKept → (k : ℕ) → ChainKept → Option ℕ → Type 0
IsLinkBefore cs k a None = (j : ℕ) → suc j ≡ k → (c : ChainKept) → j < length cs → c ≡ get_or cs j c → is_linked c a ≡ false
IsLinkBefore cs k a (Some j) = (suc j ≡ k) × (j < length cs) × ((c : ChainKept) → c ≡ get_or cs j c → is_linked c a ≡ true)

-- the chain at place k that continues the fragment, or that there is none
abbrev pub IsLinkBehind : List ChainKept → (k : ℕ) → ChainKept → Option ℕ → Type 0
IsLinkBehind cs k a None = (c : ChainKept) → k < length cs → c ≡ get_or cs k c → is_linked a c ≡ false
IsLinkBehind cs k a (Some j) = (j ≡ k) × (j < length cs) × ((c : ChainKept) → c ≡ get_or cs j c → is_linked a c ≡ true)

-- At a place stands a chain that is longer by a fragment, and the number tells whether it is a whole message.
pub record IsLonger (old : List Chain) (at : ℕ) (p : Part) (new : List Chain) (n : ℕ) : Type 0 where
  pub from : Chain
  pub to : Chain
  pub here : from ≡ get_or old at from
  pub joined : IsChain (chain_of from) → is_linked (chain_of from) (one_of p) ≡ true → chain_of to ≡ join (chain_of from) (one_of p)
  pub put : new ≡ set old at to
  pub whole : n ≡ one_if_whole (chain_of to)

-- The same where the fragment comes before the chain.
pub record IsEarlier (old : List Chain) (at : ℕ) (p : Part) (new : List Chain) (n : ℕ) : Type 0 where
  pub from : Chain
  pub to : Chain
  pub here : from ≡ get_or old at from
  pub joined : IsChain (chain_of from) → is_linked (one_of p) (chain_of from) ≡ true → chain_of to ≡ join (one_of p) (chain_of from)
  pub put : new ≡ set old at to
  pub whole : n ≡ one_if_whole (chain_of to)

-- a chain is what a chain, the fragment behind it, and the chain behind that are together, if each continues the one before
pub record IsOneOf (c a d m : ChainKept) : Type 0 where
  pub joined : IsChain c → IsChain d → is_linked c a ≡ true → is_linked a d ≡ true → m ≡ join (join c a) d
  pub whole : one_if_whole m ≡ one_if_whole (join (join c a) d)

-- a chain, the fragment behind it, and the chain behind that are one chain, at the place of the first
abbrev pub IsJoined : (old : List ChainKept) → (left : ℕ) → ChainKept → (right : ℕ) → (new : List ChainKept) → Type 0
IsJoined old left a right new =
    (c d : ChainKept) → c ≡ get_or old left c → d ≡ get_or old right d → (m : ChainKept) × IsOneOf c a d m × (new ≡ remove (set old left m) right)

-- how many whole messages that one is
abbrev pub IsWholeOfJoined : List ChainKept → (left : ℕ) → ChainKept → (right : ℕ) → ℕ → Type 0
IsWholeOfJoined cs left a right n = (c d : ChainKept) → c ≡ get_or cs left c → d ≡ get_or cs right d → n ≡ one_if_whole (join (join c a) d)

-- Where a fragment makes a chain at a place whole, those before it that were open are; else as many as were, less one where two chains became one.
abbrev pub StaysOpen : (old new : List ChainKept) → (at whole : ℕ) → Type 0
StaysOpen old new at n = (k j : ℕ) → AreOpen k old → j ≤ k - (length old - length new) → (0 < n → j ≤ at) → AreOpen j new

-- the parts are a list that has room for so many more
abbrev pub HasRoom : Parts → (more : ℕ) → Type 0
HasRoom (One part) more = ⊥
HasRoom (Many list) more = deque_len list + more ≤ deque_capacity list

-- The longer of two chains has room for the fragments of the shorter, and one more.
pub record HasJointRoom (left right : Chain) : Type 0 where
  pub before : length (parts_in left.parts) < length (parts_in right.parts) → HasRoom right.parts (length (parts_in left.parts) + 1)
  pub behind : length (parts_in right.parts) ≤ length (parts_in left.parts) → HasRoom left.parts (length (parts_in right.parts) + 1)

-- The chains have the fragments of one more.
pub record HaveMore (a : ChainKept) (old new : List ChainKept) : Type 0 where
  pub chains : AreChains new
  pub cells : AreSame (cells_of new) (cells_in a ++ cells_of old)

-- they do, if it is new to them
abbrev pub Gains : ChainKept → (old new : List ChainKept) → Type 0
Gains a old new = AreChains old → Avoids a.first old → HaveMore a old new
