-- A SACK or a SHUTDOWN that arrives at a sender, as a relation: the index of its TSN, its faults, and what it acknowledges
-- (RFC 9260, 3.3.4, 6.2.1 and 9.2).
use Rattle.std.specs.Prelude.{◌≡◌, ◌↔◌, ◌⊎◌, ℕ, ◌+◌, ◌^◌, ◌<◌, ◌≤◌, true, List, [], ◌∷◌, length}
use Rattle.sctp_model.specs.numbers.Lists.{Has}
use Rattle.sctp_model.specs.wire.Chunk.{BlockMeaning, SackMeaning}
use Rattle.sctp_model.specs.numbers.Serial.{tsn, before}
use Rattle.sctp_model.specs.sender.SenderView.{SenderView}
use Rattle.sctp_model.specs.sender.SackTaken.{SackFault, Stale, Beyond, BadBlock}

-- ---- its numbers

-- The index at CUM, or ahead of it by half the space at most, that has this TSN.
pub record IsReadAs (v : SenderView) (wire c : ℕ) : Type 0 where
  pub from : v.cum ≤ c
  pub within : c ≤ v.cum + 2 ^ 31
  pub tsn : tsn v.initial c ≡ wire

-- the TSN is BEFORE that of CUM
abbrev pub IsOld : SenderView → (wire : ℕ) → Type 0
IsOld v wire = before 32 wire (tsn v.initial v.cum) ≡ true

-- the index, or the end of a block counted from it, is past the last index assigned
abbrev pub IsPast : SenderView → (c : ℕ) → List BlockMeaning → Type 0
IsPast v c blocks = (length v.plan.entries < c) ⊎ ((b : BlockMeaning) × Has blocks b × (length v.plan.entries < c + b.end))

-- Each block begins after the end of the one before it, the first one after this offset, and none ends before it begins.
abbrev pub AreBlocks : (offset : ℕ) → List BlockMeaning → Type 0
AreBlocks offset [] = Unit {0}
AreBlocks offset (b ∷ bs) = (offset < b.start) × (b.start ≤ b.end) × AreBlocks b.end bs

-- the index lies up to c, or in a block counted from c
abbrev pub IsAcknowledged : (c : ℕ) → List BlockMeaning → (index : ℕ) → Type 0
IsAcknowledged c blocks i = (i ≤ c) ⊎ ((b : BlockMeaning) × Has blocks b × (c + b.start ≤ i) × (i ≤ c + b.end))

-- ---- what is wrong with it

-- It is stale; or else it is beyond; or else a block is bad.
pub data IsFaulty (v : SenderView) (x : SackMeaning) : SackFault → Type 0 where
  Comes_late : IsOld v x.cumulative → IsFaulty v x Stale
  Says_more : (c : ℕ) → IsReadAs v x.cumulative c → IsPast v c x.blocks → IsFaulty v x Beyond
  Is_mixed : (c : ℕ) → IsReadAs v x.cumulative c → (IsPast v c x.blocks → ⊥) → (AreBlocks 0 x.blocks → ⊥) → IsFaulty v x BadBlock

-- the same of a SHUTDOWN, which has no blocks
pub data IsShutdownFaulty (v : SenderView) (wire : ℕ) : SackFault → Type 0 where
  Comes_late : IsOld v wire → IsShutdownFaulty v wire Stale
  Says_more : (c : ℕ) → IsReadAs v wire c → length v.plan.entries < c → IsShutdownFaulty v wire Beyond

-- ---- what it leaves

-- the index is to be retransmitted if it was before, and isn't covered now
abbrev pub KeepsMark : (v u : SenderView) → (index : ℕ) → Type 0
KeepsMark v u i = (u.marked i ≡ true) ↔ ((v.marked i ≡ true) × (u.covered i ≡ true → ⊥))

-- A SACK without a fault is taken: CUM is its index, just what it acknowledges is covered, and the window is the one that it says.
pub record IsSackTaken (v : SenderView) (x : SackMeaning) (u : SenderView) : Type 0 where
  pub c : ℕ
  pub read : IsReadAs v x.cumulative c
  pub inside : IsPast v c x.blocks → ⊥
  pub blocks : AreBlocks 0 x.blocks
  pub cum : u.cum ≡ c
  pub covered : (i : ℕ) → (u.covered i ≡ true) ↔ IsAcknowledged c x.blocks i
  pub marked : (i : ℕ) → KeepsMark v u i
  pub rwnd : u.rwnd ≡ x.rwnd
  pub others : u ≡ record v { cum = u.cum; covered = u.covered; marked = u.marked; rwnd = u.rwnd }

-- A SHUTDOWN without a fault is taken: CUM is its index, and what is up to it is covered beside what was.
pub record IsShutdownTaken (v : SenderView) (wire : ℕ) (u : SenderView) : Type 0 where
  pub c : ℕ
  pub read : IsReadAs v wire c
  pub inside : c ≤ length v.plan.entries
  pub cum : u.cum ≡ c
  pub covered : (i : ℕ) → (u.covered i ≡ true) ↔ ((i ≤ c) ⊎ (v.covered i ≡ true))
  pub marked : (i : ℕ) → KeepsMark v u i
  pub others : u ≡ record v { cum = u.cum; covered = u.covered; marked = u.marked }
