-- Fates by ticket: of a block of tickets that ended alike for good, one; and else one for each.
use Rattle.std.specs.Prelude.{◌≡◌, ℕ, ◌+◌, ◌*◌, ◌^◌, ◌<◌, List, ◌++◌, length, take, drop, replicate}
use Rattle.std.specs.List.{All, flat_map}
use Rattle.sctp_send.specs.declared.kept.message.Fate.{Fate}
use Rattle.sctp_send.specs.declared.kept.blocks.Block.{Block}
use Rattle.sctp_send.specs.declared.kept.blocks.Block.TheVariants.{Alike, Each}

-- the fates of a block of 4,096 tickets, where those of blocks that didn't end alike are these
abbrev pub fates_in : (mixed : List Fate) → Block → List Fate
fates_in mixed (Alike fate) = replicate 4096 fate
fates_in mixed (Each start) = take 4096 (drop start mixed)

-- the fates of blocks, one behind the other
abbrev pub fates_of : (mixed : List Fate) → List Block → List Fate
fates_of mixed bs = flat_map (fates_in mixed) bs

-- each of these blocks has its fates there
abbrev pub AreWithin : (mixed : List Fate) → List Block → Type 0
AreWithin mixed bs = All (λ b. length (fates_in mixed b) ≡ 4096) bs

-- What is kept of the fates: blocks of the tickets that are over, and the others one by one.
pub record AreFates (ended : ℕ) (blocks : List Block) (mixed recent : List Fate) : Type 0 where
  pub many : ended ≡ 4096 * length blocks
  pub within : AreWithin mixed blocks
  pub few : ended + length recent < 2 ^ 64

-- A block has these fates, which were put behind the mixed ones where they aren't alike.
pub record IsBlock (block : Block) (fates old new : List Fate) : Type 0 where
  pub more : List Fate
  pub grown : new ≡ old ++ more
  pub same : fates_in new block ≡ fates
