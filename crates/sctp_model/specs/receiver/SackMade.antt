-- What a receiver says in a SACK (RFC 9260, 3.3.4 and 6.2.1), and what it is once that was sent, and once the user took a message.
use Rattle.std.specs.Prelude.{◌≡◌, ℕ, ◌<◌, List, [], ◌∷◌, ◌++◌, take, Option, Some, None}
use Rattle.sctp_model.specs.numbers.Lists.{Has, AreInOrder, at}
use Rattle.sctp_model.specs.numbers.Serial.{tsn}
use Rattle.sctp_model.specs.wire.Chunk.{BlockMeaning, SackMeaning}
use Rattle.sctp_model.specs.receiver.ReceiverView.{Handed, ReceiverView, IsCumulative, room_left}
use Rattle.sctp_model.specs.messages.Acknowledgement.{IsRun}

-- ---- gap blocks

-- from the lowest up, each ended before the next begins
abbrev pub AreBlocksRising : List BlockMeaning → Type 0
AreBlocksRising = AreInOrder (λ (low high : BlockMeaning). low.end < high.start)

-- The list of all runs above c.
pub record AreAllRuns (r : ReceiverView) (c : ℕ) (bs : List BlockMeaning) : Type 0 where
  pub rising : AreBlocksRising bs
  pub runs : (b : BlockMeaning) → Has bs b → IsRun r c b
  pub all : (b : BlockMeaning) → IsRun r c b → Has bs b

-- ---- THE SACK

-- its words, from the cumulative index and all runs: of these the lowest, and at most this many
abbrev pub sack_of : (most : ℕ) → ReceiverView → (c : ℕ) → List BlockMeaning → SackMeaning
sack_of most r c runs = record {
  cumulative = tsn r.initial c;
  rwnd = room_left r;
  blocks = take most runs;
  duplicates = r.duplicates;
}

-- THE SACK OF A VIEW, with at most this many gap blocks
pub record IsSack (most : ℕ) (r : ReceiverView) (s : SackMeaning) : Type 0 where
  pub c : ℕ
  pub runs : List BlockMeaning
  pub cumulative : IsCumulative r c
  pub all : AreAllRuns r c runs
  pub is : s ≡ sack_of most r c runs

-- When it was sent, the duplicates that it reported are forgotten.
abbrev pub sack_sent : ReceiverView → ReceiverView
sack_sent r = record r { duplicates = [] }

-- ---- the user takes a message

-- the first that waits on the stream is taken, and the rest waits on
abbrev pub first_taken : ReceiverView → (stream : ℕ) → Handed → List Handed → ReceiverView
first_taken r s first rest = record r {
  taken = at r.taken s (r.taken s ++ first ∷ []);
  waiting = at r.waiting s rest;
}

-- A message is taken if one waits; else there is none, and nothing changes.
abbrev pub TakeLeaves : ReceiverView → (stream : ℕ) → Option Handed → ReceiverView → Type 0
TakeLeaves r s None t = (r.waiting s ≡ []) × (t ≡ r)
TakeLeaves r s (Some h) t = (rest : List Handed) × (r.waiting s ≡ h ∷ rest) × (t ≡ first_taken r s h rest)
