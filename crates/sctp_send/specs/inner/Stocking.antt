-- What a sender's stock keeps, and what each wish makes of it and of the packet.
use Rattle.std.specs.Prelude.{◌≡◌, ℕ, nat_lt, ◌-◌, ◌<◌, ◌≤◌, true, false, List, [], ◌∷◌, ◌++◌, map, length, slice_set, Option, None, Some, option_map}
use Rattle.sctp_model.specs.messages.Format.{Format, Kind, Lane}
use Rattle.sctp_model.specs.messages.Plan.{Message, Entry, Part}
use Rattle.sctp_model.specs.sender.Words.{when}
use Rattle.sctp_model.specs.sender.Queueing.{cut}
use Rattle.sctp_model.specs.sender.Assigning.{turn_of, assigned}
use Rattle.sctp_model.specs.wire.Chunk.{ChunkMeaning}
use Rattle.sctp_model.specs.messages.Framing.{data_chunk}
use Rattle.sctp_model.specs.sender.SenderView.{SenderView}
use Rattle.sctp_model.specs.sender.PieceSaid.{piece_said}
use Rattle.sctp_model.specs.sender.Filling.{Wish, newcomer, next_wish, goes, gone, IsFill, newly_numbered}
use Rattle.sctp_model.specs.sender.SentChunks.{chunk_of}
use Rattle.sctp_packet.specs.Draft.{Draft as PacketDraft, room_in, with_chunks, has_room}
use Rattle.sctp_send.specs.SenderKept.{Item, Rest, Track, Kept}
use Rattle.sctp_send.specs.SenderStands.{Keeps}
use Rattle.sctp_send.specs.FillAnswers.{sendings_of}
use Rattle.sctp_send.specs.OutstandingFields.{was_sent, is_marked, item_meaning, lane_meaning, message_meaning, entry_meaning}
use Rattle.sctp_send.specs.SenderFields.{queued_by, track_meaning}
use Rattle.sctp_send.specs.inner.Newcomers.{repeats_after, counted_in, IsBegun, IsContinued, IsTurnBegun, IsTurnContinued}
use Rattle.sctp_send.specs.declared.fill.assigning.Next.{Next}
use Rattle.sctp_send.specs.declared.fill.sendings.Sendings.{Sendings}
use Rattle.sctp_send.specs.declared.fill.assigning.Next.TheVariants.{Begins, Continues}
use Rattle.sctp_send.specs.declared.stock.Stock.{Stock}
use Rattle.sctp_send.specs.declared.told.Told.{Told}
use Rattle.sctp_send.specs.declared.kept.message.Fate.{Fate}
use Rattle.sctp_send.specs.declared.kept.message.Fate.TheVariants.{Numbered}
use Rattle.sctp_values.specs.declared.ticket.Ticket.{Ticket}
use Rattle.sctp_send.specs.declared.kept.message.Message.{Message as MessageFields}
use Rattle.sctp_send.specs.declared.kept.entry.Content.{Content}
use Rattle.sctp_send.specs.declared.kept.entry.Standing.{Standing}
use Rattle.sctp_send.specs.declared.kept.entry.Standing.TheVariants.{Sent}
use Rattle.sctp_send.specs.declared.kept.entry.Entry.{Entry as EntryFields}

-- ---- what a stock keeps

-- the numbers of tickets
abbrev pub numbers_of : List Ticket → List ℕ
numbers_of ts = map (λ t. t.0) ts

-- fates, once these tickets' messages have their numbers
abbrev pub all_numbered : List Fate → List ℕ → List Fate
all_numbered fates [] = fates
all_numbered fates (t ∷ ts) = all_numbered (slice_set fates (t - 1) Numbered) ts

-- all of these tickets lie behind those that are over
abbrev pub AreOpen : (ended : ℕ) → List ℕ → Type 0
AreOpen n [] = Unit {0}
AreOpen n (t ∷ ts) = (n < t) × AreOpen n ts

-- what a sender keeps beside its parts, where these have nothing in them
abbrev pub bare : Told → Kept
bare h = record {
  initial = h.initial;
  streams = h.streams;
  fragment = h.fragment;
  partial = h.partial;
  cum = h.cum;
  rwnd = h.rwnd;
  turn = 0;
  items = [];
  queue = [];
  tracks = [];
  fates = h.fates.items;
  ended = h.fates.ended;
  abandoned = h.fates.abandoned;
  runs = when h.is_known h.covered.items;
  capacity = 0;
  passed = h.dues.passed;
  moments = h.dues.moments;
  asleep = h.dues.asleep;
  before = h.before;
  forward = h.forward;
  resets = h.resets;
}

-- what a sender keeps, with a stock's parts instead of its own
abbrev pub stocked : Kept → Stock → Kept
stocked s d = record s {
  turn = d.turn;
  items = map (item_meaning s.fragment) d.outstanding.items;
  queue = map (queued_by s.fragment) d.queue.items;
  tracks = map (track_meaning s.fragment) d.streams.items;
  fates = all_numbered s.fates (numbers_of d.tickets.items);
  capacity = d.outstanding.capacity;
}

-- ---- one wish

-- the chunk of a message's entry at an index, by the bases of lanes
abbrev pub said_chunk : Format → (base : Lane → ℕ) → (initial i : ℕ) → Entry → Option Message → ChunkMeaning
said_chunk f base initial i e m = data_chunk f (piece_said f initial base i e m)

-- the same of a fragment
abbrev pub fragment_chunk : Format → (base : Lane → ℕ) → (size initial i : ℕ) → MessageFields → (number : ℕ) → Content → ChunkMeaning
fragment_chunk f base size initial i m n content = said_chunk f base initial i (entry_meaning (lane_meaning m) n content) (Some (message_meaning size m))

-- it fits into a packet, whatever number and index it has
abbrev pub FitsInto : Format → PacketDraft → (size : ℕ) → MessageFields → Content → Type 0
FitsInto f p size m content = (base : Lane → ℕ) (initial i n : ℕ) → has_room p (fragment_chunk f base size initial i m n content) ≡ true

-- the item of a fragment
abbrev pub fragment_item : (size : ℕ) → MessageFields → (number fragment : ℕ) → Standing → Item
fragment_item size m n k standing = record {
  entry = Part (lane_meaning m) n k;
  message = Some (message_meaning size m);
  sent = was_sent standing;
  marked = is_marked standing;
  covered = false;
  abandoned = false;
  repeats = 0;
}

-- what is left of a message from a fragment on
abbrev pub rest_from : (size : ℕ) → MessageFields → (number next : ℕ) → Option Rest
rest_from size m n next = when (nat_lt next (length (cut size m.bytes.items))) (record { entry = Part (lane_meaning m) n next; message = Some (message_meaning size m) })

-- a message took its number on a stream, and so much of it is left
abbrev pub counted_track : Kind → Option Rest → Track → Track
counted_track k rest t = record (counted_in k t) { rest = rest }

-- so much is left of the message in part of a stream
abbrev pub left_track : Option Rest → Track → Track
left_track rest t = record t { rest = rest }

-- an entry went out
abbrev pub went_out : EntryFields → EntryFields
went_out e = record e { standing = Sent; repeats = repeats_after (was_sent e.standing) e.repeats }

-- The next wish went: its chunk is in the packet, and the stock keeps what it leaves.
pub record IsPut (f : Format) (s : Kept) (v : SenderView) (before after : PacketDraft) (old new : Stock) : Type 0 where
  pub wish : Wish
  pub next : goes f (room_in before) v ≡ Some wish
  pub chunk : after ≡ with_chunks before (chunk_of f wish ∷ [])
  pub keeps : Keeps f (stocked s new) (gone wish)
  pub told : numbers_of new.tickets.items ≡ numbers_of old.tickets.items ++ newly_numbered v (gone wish)

-- nothing that has an index is to go out: then the next wish is for what is assigned next
abbrev pub NothingStands : Format → SenderView → Type 0
NothingStands f v = next_wish f v ≡ option_map (newcomer v) (assigned f v)

-- ---- all of FILL

-- All of FILL is in the packet, and the stock keeps what it leaves; its chunks are counted.
pub record AllPut (f : Format) (s : Kept) (v : SenderView) (before after : PacketDraft) (d : Stock) (sendings : Sendings) : Type 0 where
  pub wishes : List Wish
  pub view : SenderView
  pub fill : IsFill f v (room_in before) wishes view
  pub chunks : after ≡ with_chunks before (map (chunk_of f) wishes)
  pub keeps : Keeps f (stocked s d) view
  pub told : numbers_of d.tickets.items ≡ newly_numbered v view
  pub counts : sendings ≡ sendings_of wishes

-- what takes an index next
abbrev pub NewAnswer : Format → SenderView → Option Next → Type 0
NewAnswer f v None = assigned f v ≡ None
NewAnswer f v (Some (Begins next)) = IsBegun f v next.place next.count next.turn
NewAnswer f v (Some (Continues stream)) = IsContinued f v stream

-- its place, its count or its stream is there
abbrev pub IsNextWithin : Stock → (streams : ℕ) → Option Next → Type 0
IsNextWithin d streams None = Unit {0}
IsNextWithin d streams (Some (Begins next)) = (next.place < length d.queue.items) × (0 < next.count)
IsNextWithin d streams (Some (Continues stream)) = stream < streams

-- what a stream does in its turn
abbrev pub TurnAnswer : SenderView → (stream : ℕ) → Option Next → Type 0
TurnAnswer v stream None = turn_of v stream ≡ None
TurnAnswer v stream (Some (Begins next)) = IsTurnBegun v stream next.place next.count next.turn
TurnAnswer v stream (Some (Continues s)) = (s ≡ stream) × IsTurnContinued v stream

-- The first of some streams that has something to send does this, and those before it have nothing.
pub record IsFirstTurn (v : SenderView) (from below : ℕ) (next : Next) : Type 0 where
  pub stream : ℕ
  pub above : from ≤ stream
  pub low : stream < below
  pub does : TurnAnswer v stream (Some next)
  pub before : (j : ℕ) → from ≤ j → j < stream → turn_of v j ≡ None

-- what the first of them does, or none has anything
abbrev pub FirstTurnAnswer : SenderView → (from below : ℕ) → Option Next → Type 0
FirstTurnAnswer v from below None = (j : ℕ) → from ≤ j → j < below → turn_of v j ≡ None
FirstTurnAnswer v from below (Some next) = IsFirstTurn v from below next
