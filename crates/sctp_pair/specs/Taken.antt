-- What is noted of the messages that a user took, stream by stream.
use Rattle.std.specs.Prelude.{◌≡◌, ℕ, ◌+◌, ◌<◌, ◌^◌, List, [], Option, Some, None, length, slice_get, vec_len, vec_capacity}
use Rattle.sctp_model.specs.receiver.ReceiverView.{Handed}
use Rattle.sctp_script.specs.ReportText.{ordered_numbers, count_unordered}
use Rattle.sctp_pair.specs.declared.taken.StreamLog.{StreamLog}

-- The log of a stream says which of these messages were ordered, by their numbers, and how many were not.
pub record IsStreamLog (l : StreamLog) (hs : List Handed) : Type 0 where
  pub numbers : l.numbers.items ≡ ordered_numbers hs
  pub unordered : l.unordered ≡ count_unordered hs

-- a stream without a log has no such message
abbrev pub IsLogged : Option StreamLog → List Handed → Type 0
IsLogged None hs = hs ≡ []
IsLogged (Some l) hs = IsStreamLog l hs

-- The logs, from stream 0 on, say what was taken from each stream.
abbrev pub AreLogged : List StreamLog → (ℕ → List Handed) → Type 0
AreLogged ls taken = (s : ℕ) → IsLogged (slice_get ls s) (taken s)

-- the log has space for one more message
pub record HasRoom (l : StreamLog) : Type 0 where
  pub numbers : vec_len l.numbers < vec_capacity l.numbers
  pub unordered : l.unordered + 1 < 2 ^ 64

-- there is a log of the stream, and it has space
pub record HasRoomAt (ls : List StreamLog) (s : ℕ) : Type 0 where
  pub within : s < length ls
  pub room : (l : StreamLog) → slice_get ls s ≡ Some l → HasRoom l
