-- What a FORWARD does on each stream (RFC 3758, 3.6; RFC 8260, 2.3).
use Rattle.std.specs.Prelude.{◌≡◌, ℕ, suc, ◌+◌, ◌-◌, ◌^◌, ◌<◌, ◌⊎◌, max, true, false, not, if◌then◌else◌, List, [], ◌∷◌, ◌++◌, length, filter, slice_get, Option, None, Some}
use Rattle.std.specs.List.{Contains}
use Rattle.std.specs.List.Sorted.{IsNonDecreasingBy}
use Rattle.sctp_model.specs.numbers.Lists.{Has}
use Rattle.sctp_model.specs.numbers.Serial.{COUNTS}
use Rattle.sctp_model.specs.wire.Chunk.{SkipMeaning}
use Rattle.sctp_model.specs.messages.Format.{Format, Interleaved, Unordered, Lane, same_lane, ordered_lane, unordered_lane}
use Rattle.sctp_model.specs.messages.Framing.{lane_kind, lets_go}
use Rattle.sctp_model.specs.messages.Pieces.{Piece}
use Rattle.sctp_model.specs.receiver.ReceiverView.{Handed, ReceiverView, size_of_pieces, size_of_messages, size_of_waiting}
use Rattle.sctp_model.specs.receiver.Receiving.{HasNoWhole}
use Rattle.sctp_model.specs.receiver.Reading.{lane_of}
use Rattle.sctp_model.specs.receiver.ResetTaken.{past_top}
use Rattle.sctp_wire.specs.declared.skips.Skip.{Skip}
use Rattle.sctp_chains.specs.WholeOf.{from_number}
use Rattle.sctp_recv.specs.declared.inbound.Inbound.{Inbound}
use Rattle.sctp_recv.specs.declared.stream.Stream.{Stream}
use Rattle.sctp_recv.specs.declared.restart.Restart.{Restart}
use Rattle.sctp_recv.specs.Fields.{known_of, inside, stream_of}
use Rattle.sctp_recv.specs.ReceiverKept.{StreamKept, near_of, past_of, number_read, IsCount}
use Rattle.sctp_recv.specs.Resets.{base_of}
use Rattle.sctp_model.specs.receiver.KeptOfLane.{of_lane}
use Rattle.sctp_recv.specs.Filed.{Keeps, AreFiled}
use Rattle.sctp_recv.specs.Lows.{IsMarked}
use Rattle.sctp_recv.specs.declared.places.Lows.{Lows}
use Rattle.sctp_recv.specs.inner.Giving.{sized, HasRoom, AreCounted, IsDueFrom}

-- ---- which numbers it skips

-- one past a number, or 0 where there is none
abbrev pub one_past : Option ℕ → ℕ
one_past None = 0
one_past (Some n) = suc n

-- one past the number that an entry skips in a lane, read from a base on near a count; 0 where it is of another lane or has no number
abbrev pub skipped_by : Format → Lane → (base near : ℕ) → SkipMeaning → ℕ
skipped_by f l base near x =
    if same_lane l (lane_of x.stream x.unordered) then one_past (number_read f l.kind base x.number near) else 0

-- the largest of these
abbrev pub most_skipped : Format → Lane → (base near : ℕ) → List SkipMeaning → ℕ
most_skipped f l base near [] = 0
most_skipped f l base near (x ∷ xs) = max (skipped_by f l base near x) (most_skipped f l base near xs)

-- the lowest number of a lane that still counts, of which this was the lowest before
abbrev pub lowest_after : Format → Lane → (base near lowest : ℕ) → List SkipMeaning → ℕ
lowest_after f l base near lowest xs = max lowest (most_skipped f l base near xs)

-- the same of a stream's ordered messages
abbrev pub next_after : Format → Restart → (s : ℕ) → StreamKept → List SkipMeaning → ℕ
next_after f b s a xs = lowest_after f (ordered_lane s) b.ordered a.next a.next xs

-- the same of its unordered ones
abbrev pub skip_after : Format → Restart → (s : ℕ) → StreamKept → List SkipMeaning → ℕ
skip_after f b s a xs = lowest_after f (unordered_lane s) b.unordered (near_of a Unordered) a.skip xs

-- No number that is skipped on a stream is past the largest count.
pub record AreCounts (f : Format) (b : Restart) (s : ℕ) (a : StreamKept) (xs : List SkipMeaning) : Type 0 where
  pub ordered : most_skipped f (ordered_lane s) b.ordered a.next xs < COUNTS
  pub unordered : most_skipped f (unordered_lane s) b.unordered (near_of a Unordered) xs < COUNTS

-- the number that an entry skips on its stream is a count below the largest, or there is none
abbrev pub CountsOn : {F : Type 0} → Format → (ℕ → Restart) → List (Stream F) → SkipMeaning → Type 0
CountsOn {F} f b streams x = (z : Stream F) → slice_get streams x.stream ≡ Some z →
    IsCount (number_read f (lane_kind x.unordered) (base_of (b x.stream) (lane_kind x.unordered)) x.number (near_of (stream_of z) (lane_kind x.unordered)))

-- so are those of all entries
abbrev pub CountAllOn : {F : Type 0} → Format → (ℕ → Restart) → List (Stream F) → List SkipMeaning → Type 0
CountAllOn f b streams [] = Unit {0}
CountAllOn f b streams (x ∷ xs) = CountsOn f b streams x × CountAllOn f b streams xs

-- the entries come in rising order of their streams
abbrev pub AreByStream : List Skip → Type 0
AreByStream es = IsNonDecreasingBy (λ (e : Skip). e.stream) es

-- of a stream these are all entries
abbrev pub AreEntriesOf : (s : ℕ) → (all own : List SkipMeaning) → Type 0
AreEntriesOf s all own = (x : SkipMeaning) → x.stream ≡ s → (Has all x → Has own x) × (Has own x → Has all x)

-- ---- what it does on a stream

-- the unordered chunks that it doesn't leave behind
abbrev pub stay : Format → (jump skip : ℕ) → List Piece → List Piece
stay f jump skip kept = filter (λ (x : Piece). not (lets_go f x.index x.number jump skip)) kept

-- an entry names the stream
abbrev pub IsNamed : (s : ℕ) → List SkipMeaning → Type 0
IsNamed s xs = (x : SkipMeaning) × Has xs x × (x.stream ≡ s)

-- the FORWARD goes to the stream because of its index, or names it
abbrev pub IsTouched : (s : ℕ) → Lows → (jump : ℕ) → List SkipMeaning → Type 0
IsTouched s lows jump xs = IsMarked lows s jump ⊎ IsNamed s xs

-- there is room for the messages that the ordered chunks may make
abbrev pub HasRoomOn : {F : Type 0} → Option (Inbound F) → Type 0
HasRoomOn None = ⊥
HasRoomOn (Some x) = HasRoom x 0

-- on so many of these streams
abbrev pub HaveRoom : {F : Type 0} → (touched : List ℕ) → ℕ → List (Stream F) → Type 0
HaveRoom {F} touched n streams = (i s : ℕ) (x : Stream F) → i < n → slice_get touched i ≡ Some s → slice_get streams s ≡ Some x → HasRoomOn (inside x)

-- On a stream nothing is skipped, nothing is due, and nothing goes.
pub record IsQuiet {F : Type 0} (f : Format) (b : Restart) (jump : ℕ) (xs : List SkipMeaning) (v : ReceiverView) (q : ℕ) (x : Stream F) : Type 0 where
  pub ordered : next_after f b q (stream_of x) xs ≡ (stream_of x).next
  pub unordered : skip_after f b q (stream_of x) xs ≡ (stream_of x).skip
  pub none : HasNoWhole f v.kept (ordered_lane q) (stream_of x).next
  pub clear : from_number (stream_of x).next (of_lane (ordered_lane q) v.kept) ≡ of_lane (ordered_lane q) v.kept
  pub stays : stay f jump (stream_of x).skip (of_lane (unordered_lane q) v.kept) ≡ of_lane (unordered_lane q) v.kept

-- on none but these streams
abbrev pub AreQuiet : {F : Type 0} → Format → (ℕ → Restart) → (jump : ℕ) → List SkipMeaning → ReceiverView → (touched : List ℕ) → List (Stream F) → Type 0
AreQuiet {F} f b jump xs v touched streams = (q : ℕ) (x : Stream F) → slice_get streams q ≡ Some x → (Contains touched q → ⊥) → IsQuiet f (b q) jump xs v q x

-- What is due once its numbers are skipped waits for the user; what is left behind, or below the number that is waited for then, is gone.
pub record PassesOn {F : Type 0} (f : Format) (b : Restart) (s jump : ℕ) (xs : List SkipMeaning) (os us : List Piece) (old new : Option (Inbound F)) (held left : ℕ) : Type 0 where
  pub messages : List Handed
  pub next : ℕ
  pub due : IsDueFrom f os s (known_of old).next (next_after f b s (known_of old) xs) messages next
  pub ordered : Keeps f new false (ordered_lane s) (from_number next os)
  pub unordered : Keeps f new true (unordered_lane s) (stay f jump (skip_after f b s (known_of old) xs) us)
  pub stream : known_of new ≡ record (known_of old) { next = next; skip = skip_after f b s (known_of old) xs; waiting = (known_of old).waiting ++ messages }
  pub bytes : left ≡ sized (sized (held - sized (size_of_pieces os + size_of_pieces us)
      + sized (size_of_pieces (from_number next os) + size_of_pieces (stay f jump (skip_after f b s (known_of old) xs) us))) + sized (size_of_messages messages))

-- ---- what it does on all

-- a stream's own numbers and messages are the view's
pub record IsStreamOf {F : Type 0} (v : ReceiverView) (q : ℕ) (x : Stream F) : Type 0 where
  pub next : v.next q ≡ (stream_of x).next
  pub waiting : v.waiting q ≡ (stream_of x).waiting

-- Streams that keep v's chunks and messages, where r is v with index and numbers passed and without what is left behind.
pub record AreToPass {F : Type 0} (f : Format) (b : ℕ → Restart) (jump : ℕ) (xs : List SkipMeaning) (v r : ReceiverView) (streams : List (Stream F)) (bytes : ℕ) : Type 0 where
  pub filed : AreFiled f v.kept streams
  pub counted : AreCounted v.kept
  pub stream : (q : ℕ) (x : Stream F) → slice_get streams q ≡ Some x → IsStreamOf v q x
  pub ordered : (q : ℕ) → of_lane (ordered_lane q) r.kept ≡ of_lane (ordered_lane q) v.kept
  pub unordered : (q : ℕ) (x : Stream F) → slice_get streams q ≡ Some x →
      of_lane (unordered_lane q) r.kept ≡ stay f jump (skip_after f (b q) q (stream_of x) xs) (of_lane (unordered_lane q) v.kept)
  pub within : (y : Piece) → Has r.kept y → Has v.kept y
  pub skip : (q : ℕ) (x : Stream F) → slice_get streams q ≡ Some x → r.skip (unordered_lane q) ≡ skip_after f (b q) q (stream_of x) xs
  pub past : (q : ℕ) (x : Stream F) → slice_get streams q ≡ Some x → f ≡ Interleaved → past_top r q ≡ max (skip_after f (b q) q (stream_of x) xs) (stream_of x).past
  pub floor : (q : ℕ) (x : Stream F) → slice_get streams q ≡ Some x → max (stream_of x).next (r.skip (ordered_lane q)) ≡ next_after f (b q) q (stream_of x) xs
  pub counts : (q : ℕ) (x : Stream F) → slice_get streams q ≡ Some x → AreCounts f (b q) q (stream_of x) xs
  pub next : r.next ≡ v.next
  pub waiting : r.waiting ≡ v.waiting
  pub held : bytes ≡ size_of_pieces v.kept + size_of_waiting v.waiting (length streams)
  pub small : bytes < 2 ^ 32

-- Streams that keep t's chunks, numbers and messages.
pub record ArePassed {F : Type 0} (f : Format) (t : ReceiverView) (streams : List (Stream F)) (bytes : ℕ) : Type 0 where
  pub filed : AreFiled f t.kept streams
  pub stream : (q : ℕ) (x : Stream F) → slice_get streams q ≡ Some x → IsStreamOf t q x × (t.skip (unordered_lane q) ≡ (stream_of x).skip) × (f ≡ Interleaved → past_top t q ≡ past_of (stream_of x))
  pub held : bytes ≡ size_of_pieces t.kept + size_of_waiting t.waiting (length streams)
