-- What is kept of the resets of outgoing streams, and of which resets it is that (RFC 6525, 5.1).
use Rattle.std.specs.Prelude.{◌≡◌, ℕ, ◌<◌, ◌≤◌, min, Bool, List, length, filter, slice_get, if◌then◌else◌, is_some, Option, None, Some}
use Rattle.std.specs.Vec.{vec_capacity}
use Rattle.std.specs.List.{AllByRecursion}
use Rattle.std.specs.declared.alloc.Global.{Global}
use Rattle.std.specs.declared.boxed.Box.{Box}
use Rattle.sctp_model.specs.numbers.Limits.{STREAM_LIMIT}
use Rattle.sctp_model.specs.messages.Format.{Kind, Ordered, Unordered, Lane}
use Rattle.sctp_model.specs.sender.Outgoing as model
use Rattle.sctp_model.specs.sender.Outgoing.{Outgoing}
use Rattle.sctp_model.specs.sender.Words.{count_up}
use Rattle.sctp_send.specs.declared.kept.resets.Sending.{Sending}
use Rattle.sctp_send.specs.declared.kept.resets.Sending.TheVariants.{Sends, Resets, Refuses}
use Rattle.sctp_send.specs.declared.kept.request.Numbering.{Numbering}
use Rattle.sctp_send.specs.declared.kept.request.Numbering.TheVariants.{First, Next, Later}
use Rattle.sctp_send.specs.declared.kept.resets.StreamReset.{StreamReset}
use Rattle.sctp_send.specs.declared.kept.request.Request.{Request}
use Rattle.sctp_send.specs.declared.kept.resets.ResetTable.{ResetTable}
use Rattle.sctp_send.specs.declared.kept.resets.OutgoingResets.{OutgoingResets}

-- ---- bases

-- the number of a kind that is 0 on the wire
abbrev pub base_by : Kind → StreamReset → ℕ
base_by Ordered r = r.ordered
base_by Unordered r = r.unordered

-- the same on a stream, if it is there
abbrev pub base_there : Kind → Option StreamReset → ℕ
base_there k None = 0
base_there k (Some r) = base_by k r

-- the same by lane, of all streams
abbrev pub base_in : List StreamReset → Lane → ℕ
base_in rs l = base_there l.kind (slice_get rs l.stream)

-- the same, if there is a table
abbrev pub base_under : Option (Box ResetTable Global) → Lane → ℕ
base_under None l = 0
base_under (Some b) l = base_in b.value.streams.items l

-- the same of what a sender keeps
abbrev pub base_of : OutgoingResets → Lane → ℕ
base_of x l = base_under x.table l

-- ---- whether streams take messages

-- by its name in the model
abbrev pub sending_meaning : Sending → model.Sending
sending_meaning Sends = model.Sends
sending_meaning Resets = model.Resets
sending_meaning Refuses = model.Refuses

-- a stream, if it is there
abbrev pub sending_there : Option StreamReset → model.Sending
sending_there None = model.Sends
sending_there (Some r) = sending_meaning r.sending

-- by stream, if there is a table
abbrev pub sending_under : Option (Box ResetTable Global) → ℕ → model.Sending
sending_under None s = model.Sends
sending_under (Some b) s = sending_there (slice_get b.value.streams.items s)

-- ---- requests

-- which number a request has, by its name in the model
abbrev pub numbering_meaning : Numbering → model.Numbering
numbering_meaning First = model.FirstNumber
numbering_meaning Next = model.NextNumber
numbering_meaning Later = model.LaterNumber

-- the same, if it waits
abbrev pub numbering_kept : Option Numbering → model.Numbering
numbering_kept None = model.FirstNumber
numbering_kept (Some x) = numbering_meaning x

-- a request
abbrev pub request_meaning : Request → model.Request
request_meaning r = record { first = r.first; last = r.last; streams = r.streams.items; numbering = numbering_kept r.numbering }

-- the last one that was made, if it waits
abbrev pub pending_meaning : Option Request → Option model.Request
pending_meaning None = None
pending_meaning (Some r) = if is_some r.numbering then Some (request_meaning r) else None

-- the same, if there is a table
abbrev pub pending_under : Option (Box ResetTable Global) → Option model.Request
pending_under None = None
pending_under (Some b) = pending_meaning b.value.last_made

-- the last one that was made, as it was made
abbrev pub last_meaning : Option Request → Option model.Request
last_meaning None = None
last_meaning (Some r) = Some (record { first = r.first; last = r.last; streams = r.streams.items; numbering = model.FirstNumber })

-- the same, if there is a table
abbrev pub last_under : Option (Box ResetTable Global) → Option model.Request
last_under None = None
last_under (Some b) = last_meaning b.value.last_made

-- how many sequence numbers were used
abbrev pub made_under : Option (Box ResetTable Global) → ℕ
made_under None = 0
made_under (Some b) = b.value.made

-- ---- what it stands for

-- streams of a request are among so many
abbrev pub IsWithin : ℕ → Option Request → Type 0
IsWithin n None = Unit {0}
IsWithin n (Some r) = AllByRecursion (λ s. s < n) r.streams.items

-- a stream of these waits for its reset
abbrev pub is_resetting_in : List StreamReset → ℕ → Bool
is_resetting_in rs s = model.is_resetting (sending_there (slice_get rs s))

-- A table has so many streams, and lists those that wait for their reset.
pub record IsTable (n : ℕ) (t : ResetTable) : Type 0 where
  pub streams : length t.streams.items ≡ n
  pub request : IsWithin n t.last_made
  pub resetting : t.resetting.items ≡ filter (is_resetting_in t.streams.items) (count_up 0 (min n STREAM_LIMIT))
  pub room : min n STREAM_LIMIT ≤ vec_capacity t.resetting

-- if there is one
abbrev pub IsTabled : ℕ → Option (Box ResetTable Global) → Type 0
IsTabled n None = Unit {0}
IsTabled n (Some b) = IsTable n b.value

-- What is kept of the resets of so many streams: bases, requests, and whether each of these streams takes messages.
pub record AreResets (n : ℕ) (x : OutgoingResets) (o : Outgoing) : Type 0 where
  pub base : o.base ≡ base_of x
  pub sending : (s : ℕ) → s < n → o.sending s ≡ sending_under x.table s
  pub made : o.made ≡ made_under x.table
  pub pending : o.pending ≡ pending_under x.table
  pub last : o.last_made ≡ last_under x.table
  pub table : IsTabled n x.table

-- This is the last request that was made, and its streams are among so many.
pub record IsLastMade (n : ℕ) (r : Option Request) (o : Outgoing) : Type 0 where
  pub pending : o.pending ≡ pending_meaning r
  pub last : o.last_made ≡ last_meaning r
  pub within : IsWithin n r
