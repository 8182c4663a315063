-- What is kept of the peer's resets says what a view knows of them (RFC 6525, 5.2).
use Rattle.std.specs.Prelude.{◌≡◌, ℕ, ◌-◌, ◌*◌, ◌<◌, ◌≤◌, if◌then◌else◌, true, List, [], map, length, slice_index_or, Option, None, Some, is_some, unwrap_or, option_map}
use Rattle.std.specs.declared.alloc.Global.{Global}
use Rattle.std.specs.declared.boxed.Box.{Box}
use Rattle.sctp_model.specs.numbers.Serial.{tsn}
use Rattle.sctp_model.specs.wire.Typed.{Typed}
use Rattle.sctp_model.specs.wire.Reconfig.{ResetResult, BadNumber, response_item}
use Rattle.sctp_model.specs.messages.Format.{Format, Interleaved, Kind, Ordered, Unordered, ordered_lane, unordered_lane}
use Rattle.sctp_model.specs.receiver.Incoming.{Waited, Incoming}
use Rattle.sctp_model.specs.receiver.ReceiverView.{Handed}
use Rattle.sctp_model.specs.receiver.ResetTaken.{is_in_progress}
use Rattle.sctp_reconfig.specs.Meanings.{result_meaning}
use Rattle.sctp_recv.specs.declared.postponed.Postponed.{Postponed}
use Rattle.sctp_recv.specs.declared.restart.Restart.{Restart}
use Rattle.sctp_recv.specs.declared.restart.ResetResponse.{ResetResponse}
use Rattle.sctp_recv.specs.declared.resets.Resets.{Resets}
use Rattle.sctp_recv.specs.ResetsKept.{ResetsKept}
use Rattle.sctp_recv.specs.inner.Bits.{bit_in}

-- ---- what the struct says

-- a response
abbrev pub response_of : ResetResponse → Typed
response_of x = response_item x.number (result_meaning x.result)

-- a request that was in progress, and lists these streams
abbrev pub waited_of : List ℕ → Postponed → Waited
waited_of streams x = record { last = x.last; streams = streams; done = x.done }

-- resets without their memory
abbrev pub resets_of : Resets → ResetsKept
resets_of r = record {
  last = r.last;
  result = result_meaning r.result;
  waited = option_map (waited_of r.named.items) r.waited;
  streams = r.streams.items;
  told = r.told.words.items;
  answers = map response_of r.answers.items;
}

-- those of a receiver, once there was a request
abbrev pub resets_in : Option (Box Resets Global) → Option ResetsKept
resets_in None = None
resets_in (Some b) = Some (resets_of b.value)

-- ---- what it says of a stream

-- a stream that wasn't reset
abbrev pub UNRESET : Restart
UNRESET = record { ordered = 0; unordered = 0; old = 0 }

-- the stream with this number, or one that wasn't reset
abbrev pub restart_at : List Restart → ℕ → Restart
restart_at xs s = slice_index_or xs s UNRESET

-- the same; before the first request none was
abbrev pub restart_in : Option ResetsKept → ℕ → Restart
restart_in None s = UNRESET
restart_in (Some r) s = restart_at r.streams s

-- the number of a stream's messages of one kind that is 0 on the wire
abbrev pub base_of : Restart → Kind → ℕ
base_of x Ordered = x.ordered
base_of x Unordered = x.unordered

-- the bit of a stream
abbrev pub told_in : Option ResetsKept → ℕ → ℕ
told_in None s = 0
told_in (Some r) s = bit_in r.told s

-- ---- what it says of requests

-- the number of the last one: before the first, the one before the peer's first TSN
abbrev pub last_in : Option ResetsKept → (initial : ℕ) → ℕ
last_in None initial = tsn initial 0
last_in (Some r) initial = r.last

-- its result
abbrev pub result_in : Option ResetsKept → ResetResult
result_in None = BadNumber
result_in (Some r) = r.result

-- what it said, if it was in progress
abbrev pub waited_in : Option ResetsKept → Option Waited
waited_in None = None
waited_in (Some r) = r.waited

-- the responses that wait
abbrev pub answers_in : Option ResetsKept → List Typed
answers_in None = []
answers_in (Some r) = r.answers

-- ---- what it stands for

-- Something is known of each of so many streams, and there is a bit for each.
pub record AreAll (count : ℕ) (r : ResetsKept) : Type 0 where
  pub streams : length r.streams ≡ count
  pub bits : count ≤ length r.told * 64

-- once there was a request
abbrev pub AreAllIn : ℕ → Option ResetsKept → Type 0
AreAllIn streams None = Unit {0}
AreAllIn streams (Some r) = AreAll streams r

-- What is kept is what is known, where the user took these messages: of a stream that was reset, how many of those that wait were delivered before; the base of unordered numbers
-- where they exist.
pub record KeepsResets (f : Format) (k : Option ResetsKept) (initial streams : ℕ) (taken : ℕ → List Handed) (r : Incoming) : Type 0 where
  pub last : last_in k initial ≡ tsn initial r.taken
  pub result : result_in k ≡ r.result
  pub waited : waited_in k ≡ r.waited
  pub begun : is_in_progress r.result ≡ true → 0 < r.taken
  pub answers : r.answers ≡ answers_in k
  pub ordered : (s : ℕ) → r.base (ordered_lane s) ≡ (restart_in k s).ordered
  pub unordered : (s : ℕ) → f ≡ Interleaved → r.base (unordered_lane s) ≡ (restart_in k s).unordered
  pub old : (s : ℕ) → unwrap_or (r.told s) 0 - length (taken s) ≡ (restart_in k s).old
  pub told : (s : ℕ) → s < streams → told_in k s ≡ (if is_some (r.told s) then 1 else 0)
  pub none : (s : ℕ) → streams ≤ s → told_in k s ≡ 0
  pub all : AreAllIn streams k
