-- What handing over leaves.
use Rattle.std.specs.Prelude.{◌≡◌, ℕ, suc, ◌+◌, ◌-◌, ◌^◌, ◌<◌, ◌≤◌, ◌⊎◌, min, Bool, true, false, List, [], ◌∷◌, ◌++◌, length, Some}
use Rattle.std.specs.VecDeque.{deque_len, deque_capacity}
use Rattle.sctp_model.specs.numbers.Lists.{Has}
use Rattle.sctp_model.specs.numbers.Serial.{COUNTS}
use Rattle.sctp_model.specs.messages.Format.{Format, Lane, ordered_lane, unordered_lane}
use Rattle.sctp_model.specs.messages.Pieces.{Piece}
use Rattle.sctp_model.specs.numbers.Limits.{WINDOW}
use Rattle.sctp_model.specs.receiver.ReceiverView.{Handed, ReceiverView, size_of_messages}
use Rattle.sctp_model.specs.messages.Whole.{text_of}
use Rattle.sctp_model.specs.receiver.Receiving.{IsDue, IsWholeWith, HasNoWholeWith, message_of, without_message}
use Rattle.sctp_chains.specs.StandsFor as lane
use Rattle.sctp_chains.specs.StandsFor.{whole_count}
use Rattle.sctp_chains.specs.WholeOf.{from_number}
use Rattle.sctp_recv.specs.declared.inbound.Inbound.{Inbound}
use Rattle.sctp_recv.specs.Fields.{inbound_of}
use Rattle.sctp_recv.specs.ReceiverKept.{or_past}
use Rattle.sctp_model.specs.receiver.KeptOfLane.{of_lane}
use Rattle.sctp_recv.specs.SeenKept.{SeenKept, is_reached}
use Rattle.sctp_recv.specs.SeenStands.{Records}

-- a size as the code counts it
abbrev pub sized : ℕ → ℕ
sized n = min n (2 ^ 32 - 1)

-- there is room for all messages that the ordered chunks may make, and for so many more
abbrev pub HasRoom : {F : Type 0} → Inbound F → ℕ → Type 0
HasRoom x more = deque_len x.waiting + (whole_count x.ordered + more) ≤ deque_capacity x.waiting

-- the chunks of both kinds are those that they were
abbrev pub SameChunks : {F : Type 0} → Format → (old new : Inbound F) → Type 0
SameChunks f old new =
    ((l : Lane) (kept : List Piece) → lane.StandsFor f old.ordered l kept → lane.StandsFor f new.ordered l kept)
    × ((l : Lane) (kept : List Piece) → lane.StandsFor f old.unordered l kept → lane.StandsFor f new.unordered l kept)

-- each number is below the largest count
abbrev pub AreCounted : List Piece → Type 0
AreCounted kept = (x : Piece) (n : ℕ) → Has kept x → x.number ≡ Some n → suc n < COUNTS

-- a view that keeps these ordered chunks of a stream, and skips the numbers from one to another and none past it
pub record IsDueView (f : Format) (kept : List Piece) (s from floor : ℕ) (r : ReceiverView) : Type 0 where
  pub same : of_lane (ordered_lane s) r.kept ≡ kept
  pub above : r.skip (ordered_lane s) ≤ floor
  pub skipped : (n : ℕ) → from ≤ n → n < floor → n < r.skip (ordered_lane s)

-- what is due on the stream, in each such view
abbrev pub IsDueFrom : Format → List Piece → (s from floor : ℕ) → List Handed → ℕ → Type 0
IsDueFrom f kept s from floor ms m = (r : ReceiverView) → IsDueView f kept s from floor r → IsDue f r s from ms m

-- from a number on, these are the chunks that were kept
pub record IsRest (next : ℕ) (kept rest : List Piece) : Type 0 where
  pub same : (k : ℕ) → next ≤ k → from_number k rest ≡ from_number k kept

-- so far these messages are handed over, and the number has come to `next`
abbrev pub IsDueSoFar : Format → List Piece → (s from floor next : ℕ) → List Handed → Type 0
IsDueSoFar f kept s from floor next ms =
    (r : ReceiverView) → IsDueView f kept s from floor r → (from ≤ next) × ((os : List Handed) (o : ℕ) → IsDue f r s next os o → IsDue f r s from (ms ++ os) o)

-- What was handed over so far, and what is left then of the stream's ordered chunks.
pub record IsHandedSoFar {F : Type 0} (f : Format) (s floor : ℕ) (kept : List Piece) (old now : Inbound F) (given : ℕ) (rest : List Piece) : Type 0 where
  pub messages : List Handed
  pub within : (x : Piece) → Has rest x → Has kept x
  pub rests : IsRest now.next kept rest
  pub due : IsDueSoFar f kept s old.next floor now.next messages
  pub stream : inbound_of now ≡ record (inbound_of old) { next = now.next; waiting = (inbound_of old).waiting ++ messages }
  pub others : (l : Lane) (ks : List Piece) → lane.StandsFor f old.unordered l ks → lane.StandsFor f now.unordered l ks
  pub bytes : given ≡ sized (size_of_messages messages)

-- The same, where the ordered chunks kept are those, and there is room for what they may make.
pub record IsGivenSoFar {F : Type 0} (f : Format) (s floor : ℕ) (kept : List Piece) (old now : Inbound F) (given : ℕ) : Type 0 where
  pub rest : List Piece
  pub handed : IsHandedSoFar f s floor kept old now given rest
  pub left : lane.StandsFor f now.ordered (ordered_lane s) rest
  pub room : HasRoom now 0

-- What is due from the next number on waits for the user; the ordered chunks below the number that is waited for then are gone.
pub record GivesDue {F : Type 0} (f : Format) (s floor : ℕ) (kept : List Piece) (old new : Inbound F) (given : ℕ) : Type 0 where
  pub messages : List Handed
  pub next : ℕ
  pub due : IsDueFrom f kept s old.next floor messages next
  pub left : lane.StandsFor f new.ordered (ordered_lane s) (from_number next kept)
  pub stream : inbound_of new ≡ record (inbound_of old) { next = next; waiting = (inbound_of old).waiting ++ messages }
  pub others : (l : Lane) (ks : List Piece) → lane.StandsFor f old.unordered l ks → lane.StandsFor f new.unordered l ks
  pub bytes : given ≡ sized (size_of_messages messages)

-- The newest chunk's message is whole: it waits for the user, and what goes with it is gone.
pub record GivesWhole {F : Type 0} (f : Format) (s : ℕ) (x : Piece) (kept : List Piece) (old new : Inbound F) (given : ℕ) : Type 0 where
  pub head : Piece
  pub rest : List Piece
  pub whole : IsWholeWith f (x ∷ kept) x (head ∷ rest)
  pub left : lane.StandsFor f new.unordered (unordered_lane s) (without_message f (x ∷ kept) (head ∷ rest))
  pub stream : inbound_of new ≡ record (inbound_of old) { past = or_past (inbound_of old).past x.number; waiting = (inbound_of old).waiting ++ message_of f head rest ∷ [] }
  pub bytes : given ≡ sized (length (text_of (head ∷ rest)))

-- It isn't whole, and stays with the others.
pub record GivesNone {F : Type 0} (f : Format) (s : ℕ) (x : Piece) (kept : List Piece) (old new : Inbound F) (given : ℕ) : Type 0 where
  pub none : HasNoWholeWith f (x ∷ kept) x
  pub left : lane.StandsFor f new.unordered (unordered_lane s) (x ∷ kept)
  pub stream : inbound_of new ≡ record (inbound_of old) { past = or_past (inbound_of old).past x.number }
  pub bytes : given ≡ 0

-- an unordered message is handed over, if it is whole; the ordered chunks are those that they were
pub record GivesNewest {F : Type 0} (f : Format) (s : ℕ) (x : Piece) (kept : List Piece) (old new : Inbound F) (given : ℕ) : Type 0 where
  pub gives : GivesWhole f s x kept old new given ⊎ GivesNone f s x kept old new given
  pub others : (l : Lane) (ks : List Piece) → lane.StandsFor f old.ordered l ks → lane.StandsFor f new.ordered l ks

-- what is due with the newest chunk is handed over, by its kind
abbrev pub GivesBy : {F : Type 0} → (unordered : Bool) → Format → (s : ℕ) → (x : Piece) → (kept : List Piece) → (old new : Inbound F) → (given : ℕ) → Type 0
GivesBy true f s x kept old new given = GivesNewest f s x kept old new given
GivesBy false f s x kept old new given = GivesDue f s old.next (x ∷ kept) old new given

-- the index is recorded, if it may be
abbrev pub RecordsNew : SeenKept → SeenKept → ℕ → Type 0
RecordsNew k l i = is_reached k i ≡ false → i ≤ k.cumulative + WINDOW → Records k l i
