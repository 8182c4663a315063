-- The chunks that a sender writes, on plain numbers: a fragment's, and a FORWARD's, which goes as far as fits a packet (RFC 9260, 3.3.1; RFC 3758, 3.2 and
-- 3.5; RFC 8260, 2.1 and 2.3.1).
use Rattle.std.specs.Prelude.{ℕ, ◌+◌, ◌-◌, nat_le, Bool, [], ◌∷◌, map}
use Rattle.sctp_model.specs.messages.Format.{Format, Lane}
use Rattle.sctp_model.specs.numbers.Serial.{tsn}
use Rattle.sctp_model.specs.wire.Chunk.{SkipMeaning, ForwardMeaning, ChunkMeaning}
use Rattle.sctp_model.specs.wire.Packet.{size_of_packet}
use Rattle.sctp_model.specs.messages.Forward.{Skip}
use Rattle.sctp_model.specs.sender.SenderView.{SenderView}
use Rattle.sctp_model.specs.messages.Framing.{forward_chunk}
use Rattle.sctp_model.specs.sender.Readers.{point}
use Rattle.sctp_model.specs.sender.Forwarding.{forward_to}
pub use Rattle.sctp_model.specs.sender.PieceSaid.{is_unordered, payload_said, number_said, piece_said}
pub use Rattle.sctp_model.specs.sender.Filling.{chunk_of}
pub use Rattle.sctp_model.specs.sender.Words.{last_that}

-- an entry of a FORWARD
abbrev pub skip_said : Format → (base : Lane → ℕ) → Skip → SkipMeaning
skip_said f base x = record { stream = x.lane.stream; unordered = is_unordered x.lane.kind; number = number_said f base x.lane x.number }

-- the FORWARD to an index
abbrev pub forward_said : Format → SenderView → (p : ℕ) → ForwardMeaning
forward_said f v p = record { cumulative = tsn v.initial p; skips = map (skip_said f v.resets.base) (forward_to f v p).skips }

-- its chunk
abbrev pub forward_chunk_to : Format → SenderView → (p : ℕ) → ChunkMeaning
forward_chunk_to f v p = forward_chunk f (forward_said f v p)

-- ---- how far it goes

-- that chunk fits a packet of its own
abbrev pub fits_forward : Format → (limit : ℕ) → SenderView → (p : ℕ) → Bool
fits_forward f limit v p = nat_le (size_of_packet (forward_chunk_to f v p ∷ [])) limit

-- The end of the FORWARD of a view: the largest index past CUM, up to the point, to which a FORWARD fits a packet; CUM if there is none (RFC 3758, 3.5).
abbrev pub forward_end : Format → (limit : ℕ) → SenderView → ℕ
forward_end f limit v = v.cum + last_that (λ n. fits_forward f limit v (v.cum + n)) (point v - v.cum)

-- the chunk of the FORWARD of a view, by the packet limit
abbrev pub forward_chunk_of : Format → (limit : ℕ) → SenderView → ChunkMeaning
forward_chunk_of f limit v = forward_chunk_to f v (forward_end f limit v)
