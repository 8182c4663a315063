-- Chains of fragments that follow one another: a chain is a whole message exactly where it begins and ends one.
use Rattle.std.specs.Prelude.{◌≡◌, ℕ, suc, ◌+◌, ◌-◌, ◌*◌, ◌^◌, ◌<◌, min, not, ◌&&◌, ◌==◌, Bool, false, if◌then◌else◌, List, [], ◌∷◌, ◌++◌, map, length, Option, Some, None, is_some}
use Rattle.std.specs.declared.vec.Vec.{Vec}
use Rattle.std.specs.declared.alloc.Global.{Global}
use Rattle.sctp_model.specs.numbers.Lists.{Has, AreInOrder, joined}
use Rattle.sctp_chains.specs.Same.{total}
use Rattle.sctp_chains.specs.Cells.{Cell}
use Rattle.sctp_chains.specs.declared.chain.Head.{Head}
use Rattle.sctp_chains.specs.declared.chain.Chain.{Chain}
use Rattle.sctp_chains.specs.declared.chain.Part.{Part}
use Rattle.sctp_chains.specs.declared.parts.Parts.{Parts}
use Rattle.sctp_chains.specs.declared.parts.Parts.TheVariants.{One, Many}
use Rattle.sctp_chains.specs.declared.rank.Rank.{Rank}

-- The ranks of its first and its last fragment, what it says of a message where one begins with it, whether one ends with it, and the data
-- of its fragments.
pub record ChainKept : Type 0 where
  pub first : ℕ
  pub last : ℕ
  pub head : Option Head
  pub ends : Bool
  pub parts : List (List ℕ)

-- the data of one fragment
abbrev pub bytes_of : Vec ℕ Global → List ℕ
bytes_of v = v.items

-- the data of a chain's fragments, as a list
abbrev pub parts_in : Parts → List (Vec ℕ Global)
parts_in (One part) = part ∷ []
parts_in (Many list) = list.items

-- a rank that is kept as two numbers
abbrev pub rank_in : Rank → ℕ
rank_in r = r.number * 2 ^ 64 + r.place

-- the rank of the last of so many fragments, from a rank on, where there is one
abbrev pub last_of : (first count : ℕ) → ℕ
last_of first count = min (first + (count - 1)) (2 ^ 128 - 1)

-- what is said of a message, where one begins
abbrev pub head_if : (begins : Bool) → (index payload_id : ℕ) → Option Head
head_if begins i p = if begins then Some (record { index = i; payload_id = p }) else None

-- a chain without its memory
abbrev pub chain_of : Chain → ChainKept
chain_of c = record {
  first = rank_in c.first;
  last = last_of (rank_in c.first) (length (parts_in c.parts));
  head = head_if c.begins c.index c.payload_id;
  ends = c.ends;
  parts = map bytes_of (parts_in c.parts);
}

-- a fragment as a chain of its own
abbrev pub one_of : Part → ChainKept
one_of p = record { first = p.rank; last = p.rank; head = p.head; ends = p.end; parts = bytes_of p.data ∷ [] }

-- ---- its fragments

-- fragments from a rank on: a message may begin with the first, and end with the last
abbrev pub cells_from : (rank : ℕ) → Option Head → (ends : Bool) → List (List ℕ) → List Cell
cells_from r h e [] = []
cells_from r h e (b ∷ []) = record { rank = r; head = h; end = e; bytes = b } ∷ []
cells_from r h e (b ∷ d ∷ ds) = record { rank = r; head = h; end = false; bytes = b } ∷ cells_from (suc r) None e (d ∷ ds)

-- a chain's fragments, first to last
abbrev pub cells_in : ChainKept → List Cell
cells_in c = cells_from c.first c.head c.ends c.parts

-- the fragments of all chains
abbrev pub cells_of : List ChainKept → List Cell
cells_of cs = joined (map cells_in cs)

-- ---- how chains lie

-- the second continues the first
abbrev pub is_linked : ChainKept → ChainKept → Bool
is_linked c d = (d.first - c.last == 1) && (not c.ends && not (is_some d.head))

-- both as one chain
abbrev pub join : ChainKept → ChainKept → ChainKept
join c d = record { first = c.first; last = d.last; head = c.head; ends = d.ends; parts = c.parts ++ d.parts }

-- a message begins and ends with the chain
abbrev pub is_whole : ChainKept → Bool
is_whole c = c.ends && is_some c.head

-- 1 for a chain that is a whole message
abbrev pub one_if_whole : ChainKept → ℕ
one_if_whole c = if is_whole c then 1 else 0

-- how many chains are whole messages
abbrev pub whole_in : List ChainKept → ℕ
whole_in cs = total one_if_whole cs

-- It has a fragment, and one for each rank.
pub record IsChain (c : ChainKept) : Type 0 where
  pub some : 0 < length c.parts
  pub last : suc c.last ≡ c.first + length c.parts

-- the one lies behind the other
abbrev pub IsBelow : ChainKept → ChainKept → Type 0
IsBelow low high = low.last < high.first

-- They lie in rising order, and none continues another.
pub record AreChains (cs : List ChainKept) : Type 0 where
  pub each : (c : ChainKept) → Has cs c → IsChain c
  pub rising : AreInOrder IsBelow cs
  pub parted : (c d : ChainKept) → Has cs c → Has cs d → is_linked c d ≡ false
