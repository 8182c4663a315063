-- Which wish goes, and whether one may: asked before anything changes. And what is needed to put it.
use Rattle.std.specs.Prelude.{◌≡◌, ℕ, ◌+◌, ◌<◌, ◌≤◌, Bool, true, false, ◌&&◌, ◌||◌, List, map, length, slice_index_or, Option, None, Some, suc}
use Rattle.std.specs.declared.sync.Arc.{Arc}
use Rattle.std.specs.declared.alloc.Global.{Global}
use Rattle.sctp_model.specs.messages.Format.{Format, Lane}
use Rattle.sctp_model.specs.messages.Plan.{Message, Entry}
use Rattle.sctp_model.specs.numbers.Limits.{WINDOW}
use Rattle.sctp_model.specs.sender.SenderView.{SenderView}
use Rattle.sctp_model.specs.sender.Entries.{bytes_in}
use Rattle.sctp_model.specs.sender.Queueing.{cut}
use Rattle.sctp_model.specs.sender.Filling.{Wish, standing, next_wish, goes}
use Rattle.sctp_packet.specs.Draft.{Draft as PacketDraft, room_in, has_room}
use Rattle.sctp_send.specs.SenderKept.{Item, Rest, Kept}
use Rattle.sctp_send.specs.OutstandingFields.{item_meaning}
use Rattle.sctp_send.specs.ResetsKept.{base_of}
use Rattle.sctp_send.specs.SenderFields.{track_meaning}
use Rattle.sctp_send.specs.inner.Newcomers.{rest_at, has_rest}
use Rattle.sctp_send.specs.inner.Wishing.{first_offset, is_item_marked, is_item_unsent, item_flight, lets_flow}
use Rattle.sctp_send.specs.inner.Stocking.{said_chunk, FitsInto, NewAnswer, NothingStands}
use Rattle.sctp_send.specs.declared.fill.asking.Pending.{Pending}
use Rattle.sctp_send.specs.declared.fill.asking.Going.{Going}
use Rattle.sctp_send.specs.declared.fill.asking.Going.TheVariants.{Indexed, New}
use Rattle.sctp_send.specs.declared.fill.assigning.Beginning.{Beginning}
use Rattle.sctp_send.specs.declared.fill.assigning.Next.{Next}
use Rattle.sctp_send.specs.declared.fill.assigning.Next.TheVariants.{Begins, Continues}
use Rattle.sctp_send.specs.declared.kept.entry.Content.TheVariants.{Fragment}
use Rattle.sctp_send.specs.declared.kept.entry.Entry.{Entry as EntryFields}
use Rattle.sctp_send.specs.declared.kept.message.Message.{Message as MessageFields}
use Rattle.sctp_send.specs.declared.stock.Stock.{Stock}
use Rattle.sctp_send.specs.declared.told.Told.{Told}

-- ---- may it go

-- Some wish may go into a packet, or none.
abbrev pub IsAsked : Format → SenderView → PacketDraft → Bool → Type 0
IsAsked f v p true = (w : Wish) × (goes f (room_in p) v ≡ Some w)
IsAsked f v p false = goes f (room_in p) v ≡ None

-- these bytes may flow, by what a stock keeps
abbrev pub flows : Kept → Stock → List ℕ → Bool
flows s d bytes = lets_flow (item_flight (map (item_meaning s.fragment) d.outstanding.items)) (length bytes) s.rwnd

-- a message's entry went out before or may flow, and its chunk at an index fits
abbrev pub let_in : Format → (again : Bool) → Kept → Stock → (i : ℕ) → PacketDraft → Entry → Option Message → Bool
let_in f again s d i p e m = (again || flows s d (bytes_in e m)) && has_room p (said_chunk f (base_of s.resets) s.initial i e m)

-- ---- which one

-- the first item that waits to be repeated is at this offset, or else the first one that never went out
abbrev pub IsPending : List Item → (at : ℕ) → (again : Bool) → Type 0
IsPending xs at true = first_offset is_item_marked xs ≡ Some at
IsPending xs at false = (first_offset is_item_marked xs ≡ None) × (first_offset is_item_unsent xs ≡ Some at)

-- there is one, or none
abbrev pub PendingAnswer : List Item → Option Pending → Type 0
PendingAnswer xs None = (first_offset is_item_marked xs ≡ None) × (first_offset is_item_unsent xs ≡ None)
PendingAnswer xs (Some x) = IsPending xs x.at x.again

-- the next wish is for the entry at this offset, which went out before or not
pub record IsNextPending (f : Format) (v : SenderView) (at : ℕ) (again : Bool) : Type 0 where
  pub next : next_wish f v ≡ Some (standing v (suc (v.cum + at)))
  pub sent : v.sent (suc (v.cum + at)) ≡ again

-- the next wish, for an entry or for what takes the next index
abbrev pub IsNext : Format → SenderView → Going → Type 0
IsNext f v (Indexed x) = IsNextPending f v x.at x.again
IsNext f v (New next) = NothingStands f v × NewAnswer f v (Some next)

-- it is this one, and may go; or none may
abbrev pub GoesAnswer : Format → SenderView → PacketDraft → Option Going → Type 0
GoesAnswer f v p None = IsAsked f v p false
GoesAnswer f v p (Some going) = IsNext f v going × IsAsked f v p true

-- ---- what is needed to put it

-- A message of some fragments can enter a stream: the stream is there with nothing in part, so many are among them, and their entries have room.
pub record IsEntrance (size : ℕ) (d : Stock) (stream count all : ℕ) : Type 0 where
  pub there : stream < length d.streams.items
  pub within : count ≤ all
  pub idle : has_rest (rest_at (map (track_meaning size) d.streams.items) stream) ≡ false
  pub room : length d.outstanding.items + count ≤ d.outstanding.capacity

-- A message can begin: it waits at its place, and its first chunk fits.
pub record CanBegin (f : Format) (p : PacketDraft) (size : ℕ) (d : Stock) (next : Beginning) : Type 0 where
  pub place : next.place < length d.queue.items
  pub some : 0 < next.count
  pub few : next.count ≤ WINDOW + 1
  pub enters : (m : Arc MessageFields Global) → m ≡ slice_index_or d.queue.items next.place m → IsEntrance size d m.value.stream next.count (length (cut size m.value.bytes.items))
  pub fits : (m : Arc MessageFields Global) → m ≡ slice_index_or d.queue.items next.place m → FitsInto f p size m.value (Fragment 0)

-- The message in part of a stream can go on: its next entry has room, and its chunk fits.
pub record CanGoOn (f : Format) (p : PacketDraft) (h : Told) (d : Stock) (stream : ℕ) : Type 0 where
  pub low : stream < h.streams
  pub there : stream < length d.streams.items
  pub part : has_rest (rest_at (map (track_meaning h.fragment) d.streams.items) stream) ≡ true
  pub room : length d.outstanding.items < d.outstanding.capacity
  pub fits : (r : Rest) (base : Lane → ℕ) (initial i : ℕ) → Some r ≡ rest_at (map (track_meaning h.fragment) d.streams.items) stream → has_room p (said_chunk f base initial i r.entry r.message) ≡ true

-- what takes the next index can do so
abbrev pub CanTake : Format → PacketDraft → Told → Stock → Next → Type 0
CanTake f p h d (Begins next) = CanBegin f p h.fragment d next
CanTake f p h d (Continues stream) = CanGoOn f p h d stream

-- the wish can be put: its entry is there, and its chunk fits
abbrev pub CanGo : Format → PacketDraft → Told → Stock → Going → Type 0
CanGo f p h d (Indexed x) = (x.at < length d.outstanding.items) × ((e : EntryFields) → e ≡ slice_index_or d.outstanding.items x.at e → FitsInto f p h.fragment e.message.value e.content)
CanGo f p h d (New next) = CanTake f p h d next
