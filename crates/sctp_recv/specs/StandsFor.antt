-- Which receiver stands for which view.
use Rattle.std.specs.Prelude.{◌≡◌, ℕ, suc, ◌^◌, ◌<◌, ◌≤◌, true, false, Some, length}
use Rattle.sctp_model.specs.numbers.Lists.{Has}
use Rattle.sctp_model.specs.numbers.Serial.{COUNTS}
use Rattle.sctp_model.specs.messages.Format.{Format, Plain, Interleaved, Unordered, is_numbered, ordered_lane, unordered_lane}
use Rattle.sctp_model.specs.messages.Framing.{is_skipped}
use Rattle.sctp_model.specs.messages.Pieces.{Piece}
use Rattle.sctp_model.specs.receiver.ReceiverView.{ReceiverView, held_bytes}
use Rattle.sctp_model.specs.receiver.Laws.{IsFilledOnce, IsAtRest}
use Rattle.sctp_model.specs.receiver.ResetTaken.{past_top}
use Rattle.sctp_recv.specs.ReceiverKept.{ReceiverKept, stream_at, past_of}
use Rattle.sctp_recv.specs.SeenStands.{SeenStands}
use Rattle.sctp_recv.specs.KeptOf.{kept_of}
use Rattle.sctp_recv.specs.Filed.{AreFiled}
use Rattle.sctp_recv.specs.Resets.{KeepsResets}
use Rattle.sctp_recv.specs.Lows.{IsMarked}
use Rattle.sctp_recv.specs.inner.Bits.{IsShown}
use Rattle.sctp_recv.specs.declared.places.Lows.{Lows}
use Rattle.sctp_recv.specs.declared.receiver.Receiver.{Receiver}

-- What is kept says the view, up to what the receiver has let go: the indexes at or below the cumulative one, the messages taken, and the
-- skipped ordered numbers, of which none is past the next; of unordered ones the largest, where they are numbered; of streams that were reset, how many of the messages that wait were delivered before. The chunks kept are apart, each was recorded, and all that is held fits the buffer,
-- of which nothing is reserved; a stream's number has 16 bits.
pub record KeepsView (f : Format) (k : ReceiverKept) (v : ReceiverView) : Type 0 where
  pub seen : SeenStands k.seen v.seen v.jump
  pub counts : (i : ℕ) → v.seen i ≡ true → suc i < COUNTS
  pub apart : IsFilledOnce f v.kept
  pub recorded : (x : Piece) → Has v.kept x → v.seen x.index ≡ true
  pub numbers : (x : Piece) (n : ℕ) → Has v.kept x → x.number ≡ Some n → suc n < COUNTS
  pub next : (s : ℕ) → v.next s ≡ (stream_at k.streams s).next
  pub skip : (s : ℕ) → v.skip (unordered_lane s) ≡ (stream_at k.streams s).skip
  pub past : (s : ℕ) → f ≡ Interleaved → past_top v s ≡ past_of (stream_at k.streams s)
  pub skipped : (s : ℕ) → v.skip (ordered_lane s) ≤ v.next s
  pub waiting : (s : ℕ) → v.waiting s ≡ (stream_at k.streams s).waiting
  pub streams : v.streams ≡ length k.streams
  pub few_streams : length k.streams < 2 ^ 16
  pub duplicates : v.duplicates ≡ k.duplicates
  pub resets : KeepsResets f k.resets v.initial v.streams v.taken v.resets
  pub held : k.held ≡ held_bytes v
  pub room : k.held ≤ k.buffer
  pub small : k.buffer < 2 ^ 32
  pub initial : v.initial ≡ k.initial
  pub buffer : v.buffer ≡ k.buffer
  pub reserve : v.reserve ≡ 0

-- the receiver keeps what the view says
abbrev pub Stands : {F : Type 0} → Format → Receiver F → ReceiverView → Type 0
Stands f r v = KeepsView f (kept_of r) v × AreFiled f v.kept r.streams.items

-- How a FORWARD finds an unordered chunk that it leaves behind: under DATA each one up to the chunk's index goes to its stream; under I-DATA
-- its number isn't skipped yet, so that an entry names its stream.
abbrev pub IsFindable : Format → Lows → (skip : ℕ) → Piece → Type 0
IsFindable Plain lows skip x = IsMarked lows x.lane.stream x.index
IsFindable Interleaved lows skip x = is_skipped x.number skip ≡ false

-- so are all unordered chunks that are kept; where they have no numbers each stream has its bound
abbrev pub AreFindable : Format → ReceiverView → Lows → Type 0
AreFindable f v lows = (is_numbered f Unordered ≡ false → v.streams ≤ lows.count) × ((x : Piece) → Has v.kept x → x.lane.kind ≡ Unordered → IsFindable f lows (v.skip x.lane) x)

-- the receiver stands for this view, which is at rest, and shows on which streams something waits
unfoldable pub StandsFor : {F : Type 0} → Format → Receiver F → ReceiverView → Type 0
StandsFor f r v = KeepsView f (kept_of r) v × (AreFiled f v.kept r.streams.items × (IsAtRest f v × (AreFindable f v r.lows × IsShown r.ready.words.items v.waiting v.streams)))
