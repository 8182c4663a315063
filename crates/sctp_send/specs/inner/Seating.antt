-- Where a message that waits stands: by its ticket, and by its stream.
use Rattle.std.specs.Prelude.{◌≡◌, ℕ, ◌%◌, ◌^◌, slice_index_or, ◌<◌, ◌≤◌, Bool, true, List, map, length, Option, None, Some}
use Rattle.std.specs.List.{All, AllPairs, sum_by}
use Rattle.std.specs.declared.sync.Arc.{Arc}
use Rattle.std.specs.declared.alloc.Global.{Global}
use Rattle.sctp_sequence.specs.Pairs.{AreSame}
use Rattle.sctp_sequence.specs.declared.pairs.Pair.{Pair}
use Rattle.sctp_model.specs.sender.SenderView.{Queued}
use Rattle.sctp_model.specs.sender.Assigning.{first_on}
use Rattle.sctp_model.specs.sender.Queueing.{cut, owed_for}
use Rattle.sctp_send.specs.inner.Newcomers.{IsFirstOn}
use Rattle.sctp_send.specs.inner.Owning.{messages_of, IsOwned}
use Rattle.sctp_send.specs.inner.UserData.{AreUserBytes}
use Rattle.sctp_send.specs.declared.kept.message.Message.{Message as MessageFields}
use Rattle.sctp_send.specs.declared.kept.waiting.Waiting.{Waiting}
use Rattle.sctp_send.specs.declared.kept.seats.Found.{Found}

-- a message's ticket
abbrev pub ticket_in : Arc MessageFields Global → ℕ
ticket_in m = m.value.ticket

-- a message by its stream and its ticket
abbrev pub seat_of : Arc MessageFields Global → Pair
seat_of m = record { first = m.value.stream; second = m.value.ticket }

-- of two messages the one behind has the higher ticket
abbrev pub DoTicketsRise : List (Arc MessageFields Global) → Type 0
DoTicketsRise ms = AllPairs (λ m n. ticket_in m < ticket_in n) ms

-- so many messages have lower tickets
abbrev pub AreLower : (ticket many : ℕ) → List (Arc MessageFields Global) → Type 0
AreLower t n ms = (k : ℕ) (d : Arc MessageFields Global) → k < n → ticket_in (slice_index_or ms k d) < t

-- the first so many messages have lower tickets, and the others don't
pub record IsPlaceOf (ticket place : ℕ) (ms : List (Arc MessageFields Global)) : Type 0 where
  pub within : place ≤ length ms
  pub lower : AreLower ticket place ms
  pub others : (k : ℕ) (d : Arc MessageFields Global) → place ≤ k → k < length ms → ticket ≤ ticket_in (slice_index_or ms k d)

-- the messages' seats are these, in any order
abbrev pub AreSeats : List (Arc MessageFields Global) → List Pair → Type 0
AreSeats ms ps = AreSame ps (map seat_of ms)

-- how many bytes a message has
abbrev pub bytes_of : Arc MessageFields Global → ℕ
bytes_of m = length m.value.bytes.items

-- the TSNs that a message may take
abbrev pub owed_by : (size : ℕ) → Arc MessageFields Global → ℕ
owed_by size m = owed_for (length (cut size m.value.bytes.items))

-- What is counted of the messages that wait, of all and of the user data of each stream, and where they stand; tickets rise up to the last one, and the
-- seats are those of the messages, where it is said so; each has its owners.
pub record IsQueueOf (size : ℕ) (ws : List Waiting) (sum : ℕ) (rises : Bool) (last : ℕ) (seated : Bool) (ps : List Pair) (load : ℕ) (counts : List ℕ) : Type 0 where
  pub some : 0 < size
  pub owed : sum ≡ sum_by (owed_by size) (messages_of ws) % 2 ^ 64
  pub bytes : load ≡ sum_by bytes_of (messages_of ws) % 2 ^ 64
  pub user : AreUserBytes counts (messages_of ws)
  pub order : rises ≡ true → DoTicketsRise (messages_of ws)
  pub most : rises ≡ true → All (λ m. ticket_in m ≤ last) (messages_of ws)
  pub seats : seated ≡ true → AreSeats (messages_of ws) ps
  pub owned : All (λ w. IsOwned size 0 w.message w.others.items) ws

-- the first of some streams on which a message waits, and the place of the one that has waited longest on it
pub record IsNextOn (from below : ℕ) (qs : List Queued) (found : Found) : Type 0 where
  pub above : from ≤ found.stream
  pub low : found.stream < below
  pub first : IsFirstOn found.stream found.place qs
  pub before : (s : ℕ) → from ≤ s → s < found.stream → first_on s qs ≡ None

-- that stream, or there is none
abbrev pub NextOnAnswer : (from below : ℕ) → List Queued → Option Found → Type 0
NextOnAnswer from below qs None = (s : ℕ) → from ≤ s → s < below → first_on s qs ≡ None
NextOnAnswer from below qs (Some found) = IsNextOn from below qs found
