-- What the chunk of a fragment says (RFC 9260, 3.3.1; RFC 8260, 2.1).
use Rattle.std.specs.Prelude.{ℕ, suc, ◌-◌, ◌==◌, Bool, true, false, length, Option, None, Some}
use Rattle.sctp_model.specs.messages.Format.{Format, Kind, Ordered, Unordered, Lane}
use Rattle.sctp_model.specs.numbers.Serial.{tsn}
use Rattle.sctp_model.specs.wire.Chunk.{PieceMeaning}
use Rattle.sctp_model.specs.messages.Plan.{Message, Entry}
use Rattle.sctp_model.specs.messages.Pieces.{word_of}
use Rattle.sctp_model.specs.messages.Framing.{wire_number}
use Rattle.sctp_model.specs.sender.Entries.{entry_lane, entry_number, entry_fragment, fragments_in, bytes_in}

-- the flag U of a kind
abbrev pub is_unordered : Kind → Bool
is_unordered Ordered = false
is_unordered Unordered = true

-- the payload id of a message
abbrev pub payload_said : Option Message → ℕ
payload_said None = 0
payload_said (Some m) = m.payload

-- The number on the wire for a number of a lane: counted from the base of the last reset of its stream (RFC 6525, 5.1.2 and 5.2.2).
abbrev pub number_said : Format → (base : Lane → ℕ) → Lane → (number : ℕ) → ℕ
number_said f base l n = wire_number f l.kind (n - base l)

-- what the chunk of a message's entry says at an index; the flag I is 0
abbrev pub piece_said : Format → ℕ → (base : Lane → ℕ) → ℕ → Entry → Option Message → PieceMeaning
piece_said f initial base i e m = record {
  immediate = false;
  unordered = is_unordered (entry_lane e).kind;
  begin = entry_fragment e == 0;
  end = suc (entry_fragment e) == length (fragments_in m);
  tsn = tsn initial i;
  stream = (entry_lane e).stream;
  number = number_said f base (entry_lane e) (entry_number e);
  word = word_of f (payload_said m) (entry_fragment e);
  bytes = bytes_in e m;
}
