-- What the parts of a sender keep: the entries above CUM, the messages that wait, the streams.
use Rattle.std.specs.Prelude.{◌≡◌, ℕ, zero, suc, Bool, List, [], ◌∷◌}
use Rattle.std.specs.declared.sync.Arc.{Arc}
use Rattle.std.specs.declared.alloc.Global.{Global}
use Rattle.sctp_send.specs.declared.kept.message.Message.{Message}
use Rattle.sctp_send.specs.declared.kept.message.Fate.{Fate}
use Rattle.sctp_send.specs.declared.kept.entry.Entry.{Entry as EntryFields}
use Rattle.sctp_send.specs.declared.kept.track.Track.{Track}

-- the entries above CUM, of fragments with at most so many bytes, whose chunks have so many before them, and how many there is room for
pub record OutstandingKept : Type 0 where
  pub size : ℕ
  pub header : ℕ
  pub items : List EntryFields
  pub capacity : ℕ

-- the messages that wait, the first to come in front
pub record QueueKept : Type 0 where
  pub size : ℕ
  pub items : List (Arc Message Global)

-- the streams, by number
pub record StreamsKept : Type 0 where
  pub size : ℕ
  pub items : List Track

-- what became of each ticket, from 1 on; of how many of the first of them this stands for good; how often one was abandoned; and of how many there is
-- room for
pub record FatesKept : Type 0 where
  pub items : List Fate
  pub ended : ℕ
  pub abandoned : ℕ
  pub capacity : ℕ

-- from which moment on each ticket's message may be late: so many of the first tickets are passed; of how many behind them there is room for; and whether
-- that is said only of what isn't covered
pub record DuesKept : Type 0 where
  pub passed : ℕ
  pub moments : List ℕ
  pub asleep : Bool
  pub capacity : ℕ

-- a list in which the n-th element is changed, counted from 0
abbrev pub changed_at : {A : Type 0} → (A → A) → ℕ → List A → List A
changed_at f n [] = []
changed_at f zero (x ∷ xs) = f x ∷ xs
changed_at f (suc n) (x ∷ xs) = x ∷ changed_at f n xs

-- the entry at an offset is changed
abbrev pub changed : (EntryFields → EntryFields) → (at : ℕ) → OutstandingKept → OutstandingKept
changed f at w = record w { items = changed_at f at w.items }

-- fragments and the bytes before them are as long as before, and there is as much room
pub record IsSameRoom (old new : OutstandingKept) : Type 0 where
  pub size : new.size ≡ old.size
  pub header : new.header ≡ old.header
  pub capacity : new.capacity ≡ old.capacity
