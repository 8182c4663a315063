-- What contracts see of a receiver: what it keeps, without where it lies in memory.
use Rattle.std.specs.Prelude.{◌≡◌, ℕ, suc, ◌+◌, ◌-◌, ◌<◌, min, max, Bool, true, nat_lt, Option, None, Some, option_map, List, [], slice_index_or}
use Rattle.sctp_model.specs.numbers.Serial.{COUNTS}
use Rattle.sctp_model.specs.messages.Format.{Format, Kind, Ordered, Unordered}
use Rattle.sctp_model.specs.messages.Framing.{number_near}
use Rattle.sctp_model.specs.receiver.ReceiverView.{Handed}
use Rattle.sctp_recv.specs.SeenKept.{SeenKept}
use Rattle.sctp_recv.specs.ResetsKept.{ResetsKept}

-- Of one stream, the next ordered number, the lowest unordered one that isn't skipped, one past the largest unordered one recorded, and the messages that wait.
pub record StreamKept : Type 0 where
  pub next : ℕ
  pub skip : ℕ
  pub past : ℕ
  pub waiting : List Handed

-- The indexes seen, the streams but for their chunks, the TSNs that came again, the peer's resets, the bytes held, and the constants.
pub record ReceiverKept : Type 0 where
  pub seen : SeenKept
  pub streams : List StreamKept
  pub duplicates : List ℕ
  pub resets : Option ResetsKept
  pub held : ℕ
  pub initial : ℕ
  pub buffer : ℕ

-- a stream on which nothing came
abbrev pub FRESH : StreamKept
FRESH = record { next = 0; skip = 0; past = 0; waiting = [] }

-- the stream with this number, or a fresh one where there is none
abbrev pub stream_at : List StreamKept → ℕ → StreamKept
stream_at streams s = slice_index_or streams s FRESH

-- one past the largest unordered number that was recorded or skipped, 0 if there was none
abbrev pub past_of : StreamKept → ℕ
past_of a = max a.skip a.past

-- the count near which numbers of one kind are read
abbrev pub near_of : StreamKept → Kind → ℕ
near_of a Ordered = a.next
near_of a Unordered = past_of a - 1

-- the number that a wire value is read as near a count, if numbers are 0 on the wire from a base on (RFC 6525, 5.2.2)
abbrev pub number_read : Format → Kind → (base wire near : ℕ) → Option ℕ
number_read f k base wire near = option_map (λ n. base + n) (number_near f k wire (near - base))

-- there is a number only if it is a count below the largest
abbrev pub IsCount : Option ℕ → Type 0
IsCount o = (n : ℕ) → o ≡ Some n → suc n < COUNTS

-- a number as 64 bits hold it: any that is no count below the largest is the largest
abbrev pub in_64 : Option ℕ → Option ℕ
in_64 o = option_map (λ n. min n (COUNTS - 1)) o

-- the lowest number of one kind that still counts
abbrev pub lowest_of : StreamKept → Kind → ℕ
lowest_of a Ordered = a.next
lowest_of a Unordered = a.skip

-- past a number too, if there is one
abbrev pub or_past : ℕ → Option ℕ → ℕ
or_past n None = n
or_past n (Some m) = max n (suc m)

-- there is no number, or it is below n
abbrev pub is_below_or_none : ℕ → Option ℕ → Bool
is_below_or_none n None = true
is_below_or_none n (Some m) = nat_lt m n
