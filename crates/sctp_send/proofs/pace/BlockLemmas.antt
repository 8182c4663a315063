-- Which offsets a SACK's blocks acknowledge, block by block.
use Rattle.std.proofs.Common.{◌≡◌, ℕ, ◌+◌, ◌<◌, ◌≤◌, List, [], ◌∷◌, length, true, false, refl, arith}
use Rattle.std.proofs.lemmas.Bool.Decides.{nat_tests}
use Rattle.sctp_model.specs.wire.Chunk.{BlockMeaning}
use Rattle.sctp_model.specs.messages.Acknowledgement.{in_blocks}
use Rattle.sctp_model.specs.sender.SackTaken.{some_is_bad, sack_covers}

-- those that the cumulative TSN passes
pub covers_passed : (c j : ℕ) (bs : List BlockMeaning) → j ≤ c → sack_covers c bs j ≡ true
covers_passed c j bs le = grind (arith, nat_tests)

-- beyond them the blocks alone
pub covers_blocks : (c j : ℕ) (bs : List BlockMeaning) → c < j → sack_covers c bs j ≡ in_blocks c bs j
covers_blocks c j bs lt = grind (arith, nat_tests)

-- and without blocks nothing
pub covers_none : (c j : ℕ) (bs : List BlockMeaning) → length bs ≡ 0 → c < j → sack_covers c bs j ≡ false
covers_none c j [] none lt = covers_blocks c j [] lt
covers_none c j (b ∷ bs) none lt = absurd (cc)

-- the first block begins behind the offset, and ends where it begins or later; the others are in order behind it
pub record IsFirstBlock (n : ℕ) (b : BlockMeaning) (bs : List BlockMeaning) : Type 0 where
  pub starts : n < b.start
  pub ends : b.start ≤ b.end
  pub rest : some_is_bad b.end bs ≡ false

pub first_parts : (n : ℕ) (b : BlockMeaning) (bs : List BlockMeaning) → some_is_bad n (b ∷ bs) ≡ false → IsFirstBlock n b bs
first_parts n b bs good = record { starts = grind (arith, nat_tests, good); ends = grind (arith, nat_tests, good); rest = grind (arith, good) }

-- blocks in order behind an offset hold nothing up to there
pub none_below : (c n j : ℕ) (bs : List BlockMeaning) → some_is_bad n bs ≡ false → j ≤ c + n → in_blocks c bs j ≡ false
none_below c n j [] good le = refl
none_below c n j (b ∷ bs) good le = let p = first_parts n b bs good in grind (arith, nat_tests, p, le, none_below c b.end j bs p.rest)

-- the first block
pub block_covers : (c j : ℕ) (b : BlockMeaning) (bs : List BlockMeaning) → c + b.start ≤ j → j ≤ c + b.end → in_blocks c (b ∷ bs) j ≡ true
block_covers c j b bs lo hi = grind (arith, nat_tests)

pub block_before : (c n j : ℕ) (b : BlockMeaning) (bs : List BlockMeaning) → some_is_bad n (b ∷ bs) ≡ false → j < c + b.start → in_blocks c (b ∷ bs) j ≡ false
block_before c n j b bs good lt = let p = first_parts n b bs good in grind (arith, nat_tests, p, lt, none_below c b.end j bs p.rest)

pub block_beyond : (c j : ℕ) (b : BlockMeaning) (bs : List BlockMeaning) → c + b.end < j → in_blocks c (b ∷ bs) j ≡ in_blocks c bs j
block_beyond c j b bs lt = grind (arith, nat_tests)
