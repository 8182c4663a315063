-- Streams that are reset: whether they are still, and what becomes of what is kept of them (RFC 6525, 5.1).
use Rattle.std.specs.Prelude.{◌≡◌, ℕ, ◌<◌, ◌≤◌, min, replicate, ◌==◌, nat_lt, if◌then◌else◌, Bool, false, not, ◌&&◌, List, [], ◌∷◌, ◌++◌, length, map, filter, slice_get, Option, None, Some}
use Rattle.std.specs.List.{list_any}
use Rattle.std.specs.Vec.{vec_capacity}
use Rattle.std.specs.declared.alloc.Global.{Global}
use Rattle.std.specs.declared.boxed.Box.{Box}
use Rattle.sctp_model.specs.numbers.Limits.{STREAM_LIMIT, RESETS_AT_ONCE}
use Rattle.sctp_model.specs.messages.Format.{Lane}
use Rattle.sctp_model.specs.sender.Entries.{entry_lane}
use Rattle.sctp_model.specs.sender.Assigning.{is_on}
use Rattle.sctp_model.specs.numbers.Serial.{tsn}
use Rattle.sctp_model.specs.sender.Outgoing.{Request, FirstNumber, takes_next, are_listed}
use Rattle.sctp_model.specs.sender.Resetting.{first_twice}
use Rattle.sctp_model.specs.sender.Words.{count_up}
use Rattle.sctp_send.specs.OutstandingFields.{item_meaning}
use Rattle.sctp_send.specs.SenderFields.{queued_by, track_meaning}
use Rattle.sctp_send.specs.SenderKept.{Item}
use Rattle.sctp_send.specs.ResetsKept.{base_by, is_resetting_in}
use Rattle.sctp_send.specs.PartsKept.{changed_at}
use Rattle.sctp_send.specs.inner.Newcomers.{rest_at, has_rest}
use Rattle.sctp_send.specs.declared.stock.Stock.{Stock}
use Rattle.sctp_send.specs.declared.kept.track.Track.{Track as TrackFields}
use Rattle.sctp_send.specs.declared.kept.resets.Sending.{Sending}
use Rattle.sctp_send.specs.declared.kept.resets.Sending.TheVariants.{Sends, Refuses}
use Rattle.sctp_send.specs.declared.kept.resets.StreamReset.{StreamReset}
use Rattle.sctp_send.specs.declared.kept.resets.ResetTable.{ResetTable}

-- ---- a stream that is still

-- a stream that a request may name
abbrev pub is_low : ℕ → Type 0
is_low s = s < STREAM_LIMIT

-- an index above CUM is of this stream
abbrev pub is_item_on : (stream : ℕ) → Item → Bool
is_item_on s x = (entry_lane x.entry).stream == s

-- nothing of it waits, is in part, or is outstanding
abbrev pub is_still_in : (size : ℕ) → Stock → (stream : ℕ) → Bool
is_still_in size d s = not (list_any (is_on s) (map (queued_by size) d.queue.items))
    && (not (has_rest (rest_at (map (track_meaning size) d.streams.items) s)) && not (list_any (is_item_on s) (map (item_meaning size) d.outstanding.items)))

-- ---- what is kept of streams

-- the streams that wait for their reset, if there is a table
abbrev pub listed_under : Option (Box ResetTable Global) → List ℕ
listed_under None = []
listed_under (Some b) = b.value.resetting.items

-- whether a stream takes messages is changed
abbrev pub stream_as : Sending → StreamReset → StreamReset
stream_as x r = record r { sending = x }

-- the numbers of a stream begin anew behind these, and it takes messages
abbrev pub begun_anew : Option TrackFields → StreamReset
begun_anew None = record { ordered = 0; unordered = 0; sending = Sends }
begun_anew (Some t) = record { ordered = t.ordered; unordered = t.unordered; sending = Sends }

-- those of these streams that wait for their reset and that a request may name, by rising number
abbrev pub waiting_of : List StreamReset → List ℕ
waiting_of rs = filter (is_resetting_in rs) (count_up 0 (min (length rs) STREAM_LIMIT))

-- a stream joins those that a request names, if it is still and they aren't too many
abbrev pub named_with : (is_still : Bool) → (stream : ℕ) → List ℕ → List ℕ
named_with b s xs = if nat_lt (length xs) RESETS_AT_ONCE && b then xs ++ s ∷ [] else xs

-- all of these streams are changed
abbrev pub all_changed : (ℕ → StreamReset → StreamReset) → List ℕ → List StreamReset → List StreamReset
all_changed f [] rs = rs
all_changed f (s ∷ ss) rs = all_changed f ss (changed_at (f s) s rs)

-- a stream that is reset
abbrev pub restarted_by : List TrackFields → ℕ → StreamReset → StreamReset
restarted_by ts s r = begun_anew (slice_get ts s)

-- one whose reset was refused
abbrev pub refused_by : ℕ → StreamReset → StreamReset
refused_by s r = stream_as Refuses r

-- how many messages of a lane have a number
abbrev pub number_from : List TrackFields → Lane → ℕ
number_from ts l = base_by l.kind (begun_anew (slice_get ts l.stream))

-- a table of so many streams of which none was reset
pub record IsFresh (n : ℕ) (t : ResetTable) : Type 0 where
  pub streams : t.streams.items ≡ replicate n (record { ordered = 0; unordered = 0; sending = Sends })
  pub resetting : t.resetting.items ≡ []
  pub room : min n STREAM_LIMIT ≤ vec_capacity t.resetting
  pub made : t.made ≡ 0
  pub last : t.last_made ≡ None

-- ---- requests

-- one that waits takes the next number when it is retransmitted
abbrev pub takes_next_in : Option Request → Bool
takes_next_in None = false
takes_next_in (Some q) = takes_next q.numbering

-- a request as it is made
abbrev pub made_of : (first last : ℕ) → List ℕ → Request
made_of first last xs = record { first = first; last = last; streams = xs; numbering = FirstNumber }

-- a request said the same as one for these streams, where the last TSN is that of this index
abbrev pub says_same : (initial last : ℕ) → List ℕ → Option Request → Bool
says_same initial last xs None = false
says_same initial last xs (Some q) = (tsn initial q.last == tsn initial last) && are_listed q.streams xs

-- what the next one names, if these streams are ready
abbrev pub named_after : (initial last : ℕ) → Option Request → List ℕ → List ℕ
named_after initial last q xs = if says_same initial last xs q then first_twice xs else xs
