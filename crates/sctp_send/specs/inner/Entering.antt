-- What filling a packet makes of a stock's parts: entries of fragments and the counts of a stream; and their sizes.
use Rattle.std.specs.Prelude.{◌≡◌, ℕ, ◌<◌, ◌≤◌, ◌++◌, List, map, slice_set, false}
use Rattle.std.specs.declared.sync.Arc.{Arc}
use Rattle.std.specs.declared.alloc.Global.{Global}
use Rattle.sctp_model.specs.numbers.Limits.{GREATEST_FRAGMENT}
use Rattle.sctp_model.specs.messages.Format.{Format}
use Rattle.sctp_model.specs.messages.Framing.{header_of}
use Rattle.sctp_values.specs.Meanings.{kind_meaning}
use Rattle.sctp_send.specs.PartsKept.{IsSameRoom}
use Rattle.sctp_send.specs.SenderKept.{Item}
use Rattle.sctp_send.specs.OutstandingFields.{item_meaning, lane_meaning, message_meaning}
use Rattle.sctp_send.specs.SenderFields.{latest_in, track_meaning}
use Rattle.sctp_send.specs.inner.Newcomers.{begun_items, track_of}
use Rattle.sctp_send.specs.inner.Stocking.{left_track, rest_from}
use Rattle.sctp_send.specs.declared.stock.Stock.{Stock}
use Rattle.sctp_send.specs.declared.kept.message.Message.{Message}
use Rattle.sctp_send.specs.declared.kept.entry.Entry.{Entry as EntryFields}
use Rattle.sctp_send.specs.declared.kept.entry.Standing.{Standing}
use Rattle.sctp_send.specs.declared.kept.entry.Content.TheVariants.{Fragment}
use Rattle.sctp_values.specs.declared.kind.Kind.{Kind}
use Rattle.sctp_values.specs.declared.kind.Kind.TheVariants.{Ordered, Unordered}
use Rattle.sctp_send.specs.declared.kept.track.Track.{Track}

-- the entry of a fragment
abbrev pub fragment_entry : Arc Message Global → (number fragment : ℕ) → Standing → EntryFields
fragment_entry m n k standing = record { message = m; number = n; content = Fragment k; standing = standing; covered = false; abandoned = false; repeats = 0 }

-- how many messages of a kind have a number on a stream
abbrev pub count_of : Kind → Track → ℕ
count_of Ordered t = t.ordered
count_of Unordered t = t.unordered

-- a stream on which so many have one
abbrev pub counted_to : Kind → ℕ → Track → Track
counted_to Ordered n t = record t { ordered = n }
counted_to Unordered n t = record t { unordered = n }

-- all parts have fragments of the same size, which is within its limits, and the chunks of entries have this format
pub record IsSized (f : Format) (size : ℕ) (d : Stock) : Type 0 where
  pub some : 0 < size
  pub short : size ≤ GREATEST_FRAGMENT
  pub window : d.outstanding.size ≡ size
  pub header : d.outstanding.header ≡ header_of f
  pub queue : d.queue.size ≡ size
  pub tracks : d.streams.size ≡ size

-- Behind its first fragment, a message's further ones took their indexes, up to so many of all, and what is left waits on its stream.
pub record HaveEntered (size : ℕ) (m : Message) (stream number count : ℕ) (old new : Stock) : Type 0 where
  pub same : new ≡ record old { outstanding = new.outstanding; streams = new.streams }
  pub room : IsSameRoom old.outstanding new.outstanding
  pub sized : new.streams.size ≡ old.streams.size
  pub items : (before : List Item) → map (item_meaning size) old.outstanding.items ≡ before ++ begun_items (lane_meaning m) number (message_meaning size m) 1
      → map (item_meaning size) new.outstanding.items ≡ before ++ begun_items (lane_meaning m) number (message_meaning size m) count
  pub tracks : map (track_meaning size) new.streams.items
      ≡ slice_set (map (track_meaning size) old.streams.items) stream (left_track (rest_from size m (latest_in (kind_meaning m.kind) (track_of (map (track_meaning size) old.streams.items) stream)) count) (track_of (map (track_meaning size) old.streams.items) stream))
