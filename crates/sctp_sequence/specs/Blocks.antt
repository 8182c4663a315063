-- A list in blocks: the first one, the others behind it with how many of their items stand before each, and an empty one in reserve.
use Rattle.std.specs.Prelude.{◌≡◌, ℕ, ◌^◌, ◌-◌, ◌<◌, ◌≤◌, Bool, ◌&&◌, cond, ◌==◌, nat_lt, List, ◌++◌, length, take, slice_index_or, Option, is_some, IfSome}
use Rattle.std.specs.List.{flat_map, AllByRecursion}
use Rattle.std.specs.declared.vec.Vec.{Vec}
use Rattle.std.specs.declared.collections.VecDeque.{VecDeque}
use Rattle.std.specs.Vec.{vec_len, vec_capacity}
use Rattle.std.specs.VecDeque.{deque_items, deque_len, deque_capacity}
use Rattle.sctp_sequence.specs.Kept.{SequenceKept}

module _ {X Z : Type 0} where
  -- the items of the blocks, one block after another
  abbrev pub joined : List (VecDeque X Z) → List X
  joined bs = flat_map deque_items bs

  -- the first so many numbers: how many items stand before each of the blocks
  abbrev pub AreStarts : ℕ → (starts : List ℕ) → List (VecDeque X Z) → Type 0
  AreStarts m ss bs = (k d : ℕ) → k < m → slice_index_or ss k d ≡ length (joined (take k bs))

  -- A block behind the first: it has an item, at most 512, and memory for 512.
  pub record IsBlock (b : VecDeque X Z) : Type 0 where
    pub some : 0 < deque_len b
    pub short : deque_len b ≤ 512
    pub wide : 512 ≤ deque_capacity b

  -- A block in reserve: it has no item, and memory for 512.
  pub record IsSpare (b : VecDeque X Z) : Type 0 where
    pub none : deque_len b ≡ 0
    pub wide : 512 ≤ deque_capacity b

module _ {X Z Y : Type 0} where
  -- there is one block, and it isn't full
  abbrev pub is_single : (first : VecDeque X Z) → (rest : Vec (VecDeque X Z) Y) → Bool
  is_single f r = (vec_len r == 0) && nat_lt (deque_len f) 512

module _ {X Z Y W : Type 0} where
  -- a full block can be halved: a block is in reserve, and it and its number have a place among the others
  abbrev pub can_halve : ℕ → (rest : Vec (VecDeque X Z) Y) → (starts : Vec ℕ W) → (spare : Option (VecDeque X Z)) → Bool
  can_halve n r t s = is_some s && (nat_lt (vec_len r) (vec_capacity r) && (nat_lt (vec_len r) (vec_capacity t) && nat_lt n (2 ^ 64 - 1)))

  -- one item more can come at any place
  abbrev pub has_room : ℕ → (first : VecDeque X Z) → (rest : Vec (VecDeque X Z) Y) → (starts : Vec ℕ W) → (spare : Option (VecDeque X Z)) → Bool
  has_room n f r t s = cond (is_single f r) (nat_lt (deque_len f) (deque_capacity f)) (can_halve n r t s)

  -- what is kept of so many items in these blocks
  abbrev pub sequence_of : ℕ → (first : VecDeque X Z) → (rest : Vec (VecDeque X Z) Y) → (starts : Vec ℕ W) → (spare : Option (VecDeque X Z)) → SequenceKept X
  sequence_of n f r t s = record { items = f.items ++ joined r.items; room = has_room n f r t s }

  -- What always holds of the blocks.
  pub record AreBlocks (n : ℕ) (f : VecDeque X Z) (r : Vec (VecDeque X Z) Y) (t : Vec ℕ W) (s : Option (VecDeque X Z)) : Type 0 where
    pub count : n ≡ length (f.items ++ joined r.items)
    pub short : deque_len f ≤ 512
    pub some : 0 < vec_len r → 0 < deque_len f
    pub wide : 0 < vec_len r → 512 ≤ deque_capacity f
    pub rest : AllByRecursion IsBlock r.items
    pub each : vec_len t ≡ vec_len r
    pub starts : AreStarts (vec_len r) t.items r.items
    pub spare : IfSome s IsSpare
