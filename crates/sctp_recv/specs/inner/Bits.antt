-- Bits in words of 64, and which streams they show.
use Rattle.std.specs.Prelude.{◌≡◌, ℕ, ◌*◌, ◌/◌, ◌%◌, ◌<◌, ◌≤◌, min, List, length, slice_index_or, Option, None, Some}
use Rattle.std.specs.Int.{bit_at}
use Rattle.sctp_model.specs.receiver.ReceiverView.{Handed}
use Rattle.sctp_recv.specs.ReceiverKept.{StreamKept, stream_at}

-- the word at a place, 0 where there is none
abbrev pub word_at : List ℕ → ℕ → ℕ
word_at ws k = slice_index_or ws k 0

-- the bit of a number, 0 past the words
abbrev pub bit_in : List ℕ → ℕ → ℕ
bit_in ws i = bit_at (word_at ws (i / 64)) (i % 64)

-- The first bit of a word that is set, from a place on.
pub record IsBitFrom (word from i : ℕ) : Type 0 where
  pub above : from ≤ i
  pub within : i < 64
  pub set : bit_at word i ≡ 1
  pub first : (j : ℕ) → from ≤ j → j < i → bit_at word j ≡ 0

-- that bit, or none is set from there on
abbrev pub BitFrom : (word from : ℕ) → Option ℕ → Type 0
BitFrom word from None = (j : ℕ) → from ≤ j → j < 64 → bit_at word j ≡ 0
BitFrom word from (Some i) = IsBitFrom word from i

-- The first number whose bit is set, from one on.
pub record IsNextBit (ws : List ℕ) (from i : ℕ) : Type 0 where
  pub above : from ≤ i
  pub within : i / 64 < length ws
  pub set : bit_in ws i ≡ 1
  pub first : (j : ℕ) → from ≤ j → j < i → bit_in ws j ≡ 0

-- that number, or there is none
abbrev pub NextBit : List ℕ → (from : ℕ) → Option ℕ → Type 0
NextBit ws from None = (j : ℕ) → from ≤ j → bit_in ws j ≡ 0
NextBit ws from (Some i) = IsNextBit ws from i

-- Each word has a bit among these: whether a bit of the word is set.
pub record AreTops (ws ts : List ℕ) : Type 0 where
  pub few : length ws ≤ 1024
  pub fewer : length ts ≤ 1024
  pub fits : length ws ≤ length ts * 64
  pub each : (k : ℕ) → bit_in ts k ≡ min 1 (word_at ws k)

-- The bits show on which streams a message waits, and there is a bit for each stream.
pub record AreShown (ws : List ℕ) (streams : List StreamKept) : Type 0 where
  pub fits : length streams ≤ length ws * 64
  pub each : (s : ℕ) → bit_in ws s ≡ min 1 (length (stream_at streams s).waiting)

-- The same of what waits, stream by stream.
pub record IsShown (ws : List ℕ) (waiting : ℕ → List Handed) (streams : ℕ) : Type 0 where
  pub fits : streams ≤ length ws * 64
  pub each : (s : ℕ) → bit_in ws s ≡ min 1 (length (waiting s))

-- on all other streams the same waits
abbrev pub IsSameBut : (s : ℕ) → (old new : List StreamKept) → Type 0
IsSameBut s old new = (q : ℕ) → (q ≡ s → ⊥) → (stream_at new q).waiting ≡ (stream_at old q).waiting
