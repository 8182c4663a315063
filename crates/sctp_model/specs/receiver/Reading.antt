-- From wire values to counts. A receiver reads a TSN forward from that of its cumulative index, an SSN or MID near a count of its own
-- (RFC 9260, 2.6 and 6.2; RFC 8260, 2.1).
use Rattle.std.specs.Prelude.{ℕ, ◌+◌, ◌-◌, max, not, nat_lt, nat_le, Bool, true, ◌||◌, Option, Some, None, option_map}
use Rattle.sctp_model.specs.numbers.Limits.{WINDOW}
use Rattle.sctp_model.specs.numbers.Serial.{COUNTS, tsn, ahead, before}
use Rattle.sctp_model.specs.wire.Chunk.{PieceMeaning}
use Rattle.sctp_model.specs.messages.Format.{Format, Kind, Ordered, Unordered, Lane}
use Rattle.sctp_model.specs.messages.Framing.{lane_kind, number_near}
use Rattle.sctp_model.specs.messages.Pieces.{Piece}
use Rattle.sctp_model.specs.receiver.ReceiverView.{ReceiverView}
use Rattle.sctp_model.specs.receiver.Top.{top}

-- ---- TSNs; c is the cumulative index

-- the steps from the TSN of c up to this one, around the circle
abbrev pub offset : ReceiverView → (c wire : ℕ) → ℕ
offset r c = ahead 32 (tsn r.initial c)

-- the index as far above c
abbrev pub index_at : ReceiverView → (c wire : ℕ) → ℕ
index_at r c wire = c + offset r c wire

-- The TSN is old: that of c isn't before it in serial arithmetic (RFC 9260, 2.6).
abbrev pub is_behind : ReceiverView → (c wire : ℕ) → Bool
is_behind r c wire = not (before 32 (tsn r.initial c) wire)

-- The TSN lies outside the window, or its index is no count below the largest.
abbrev pub is_ahead : ReceiverView → (c wire : ℕ) → Bool
is_ahead r c wire = nat_lt WINDOW (offset r c wire) || nat_le (COUNTS - 1) (index_at r c wire)

-- ---- SSNs and MIDs

-- the stream and the flag U of a chunk as a lane
abbrev pub lane_of : ℕ → Bool → Lane
lane_of stream unordered = record { stream = stream; kind = lane_kind unordered }

-- The count near which numbers of a stream are read: what its ordered messages wait for, or its largest unordered number so far.
abbrev pub reference_in : ReceiverView → (stream : ℕ) → Kind → ℕ
reference_in r s Ordered = r.next s
reference_in r s Unordered = top r s

-- The number of a chunk of this lane, if the format has one, and a count is near: counted from the base of the last reset of its stream (RFC 6525, 5.2.2).
abbrev pub number_in : Format → ReceiverView → Lane → (wire : ℕ) → Option ℕ
number_in f r l wire = option_map (λ n. r.resets.base l + n) (number_near f l.kind wire (reference_in r l.stream l.kind - r.resets.base l))

-- the lowest number of a lane that still counts: none that is skipped does, and with order none below the stream's next
abbrev pub lowest_in : ReceiverView → Lane → Kind → ℕ
lowest_in r l Ordered = max (r.next l.stream) (r.skip l)
lowest_in r l Unordered = r.skip l

-- A number below that is too late, and so is a chunk that should have one and has none.
abbrev pub is_late : ReceiverView → Lane → Option ℕ → Bool
is_late r l None = true
is_late r l (Some n) = nat_lt n (lowest_in r l l.kind)

-- ---- a chunk in counts

-- a data chunk of this lane
abbrev pub counted_in : Lane → Format → ReceiverView → (c : ℕ) → PieceMeaning → Piece
counted_in l f r c p = record {
  index = index_at r c p.tsn;
  lane = l;
  number = number_in f r l p.number;
  begin = p.begin;
  end = p.end;
  word = p.word;
  bytes = p.bytes;
}

-- the data chunk as this receiver reads it
abbrev pub piece_at : Format → ReceiverView → (c : ℕ) → PieceMeaning → Piece
piece_at f r c p = counted_in (lane_of p.stream p.unordered) f r c p
