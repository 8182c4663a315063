-- What the bytes of a packet say without an endpoint: the fields of its common header, and the cause of its ABORT (RFC 9260, 3.1 and 3.3.7).
use Rattle.std.specs.Prelude.{◌≡◌, ℕ, List, [], ◌∷◌, ◌++◌, Option, Some, None, option_map}
use Rattle.sctp_model.specs.wire.Chunk.{ChunkMeaning, Abort}
use Rattle.sctp_model.specs.wire.Packet.{Packet}
use Rattle.sctp_model.specs.wire.Typed.{Typed, typed_in}
use Rattle.sctp_packet.specs.PacketBytes.{header_bytes}
use Rattle.sctp_endpoint.specs.declared.packets.PacketHeader.{PacketHeader}
use Rattle.sctp_endpoint.specs.declared.packets.AbortCause.{AbortCause}

-- the bytes begin with a common header of these fields, whatever its checksum says
pub record BeginsWith (bytes : List ℕ) (h : PacketHeader) : Type 0 where
  pub sum : ℕ
  pub body : List ℕ
  pub layout : bytes ≡ header_bytes h.source h.destination h.tag sum ++ body

-- the fields are those of the packet
pub record IsHeaderOf (p : Packet) (h : PacketHeader) : Type 0 where
  pub source : h.source ≡ p.source
  pub destination : h.destination ≡ p.destination
  pub tag : h.tag ≡ p.tag

-- ---- ABORT

-- the bytes of the causes of this chunk if it is an ABORT, else what the later chunks say
abbrev pub abort_or : ChunkMeaning → Option (List ℕ) → Option (List ℕ)
abort_or (Abort reflected causes) later = Some causes
abort_or m later = later

-- the bytes of the causes of the first ABORT among these chunks, if there is one
abbrev pub abort_among : List ChunkMeaning → Option (List ℕ)
abort_among [] = None
abort_among (m ∷ ms) = abort_or m (abort_among ms)

-- the first of these causes; code 0 without information if there is none
abbrev pub head_cause : List Typed → Typed
head_cause [] = record { kind = 0; value = [] }
head_cause (cause ∷ causes) = cause

-- the first cause in the bytes of an ABORT's causes
abbrev pub first_cause : List ℕ → Typed
first_cause causes = head_cause (typed_in causes)

-- what the first ABORT of a packet says, if the bytes are a packet and it has one
abbrev pub abort_said : Option Packet → Option Typed
abort_said None = None
abort_said (Some p) = option_map first_cause (abort_among p.chunks)

-- a cause, by the definitions of the causes' bytes
abbrev pub cause_meaning : AbortCause → Typed
cause_meaning cause = record { kind = cause.code; value = cause.info.now }
