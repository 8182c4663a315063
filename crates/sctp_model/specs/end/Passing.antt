-- Which packets an endpoint looks into: ports and verification tags (RFC 9260, 8.5 and 8.5.1).
use Rattle.std.specs.Prelude.{ℕ, Bool, true, false, not, ◌&&◌, ◌==◌, if◌then◌else◌, List, [], ◌∷◌}
use Rattle.sctp_model.specs.wire.Chunk.{ChunkMeaning, Init, Abort, ShutdownComplete}
use Rattle.sctp_model.specs.wire.Packet.{Packet}
use Rattle.sctp_model.specs.end.EndView.{Configuration, Phase, Calling, Echoing, Open}

-- It is from the port of this endpoint's peer, and to this endpoint's own.
abbrev pub has_ports : Configuration → Packet → Bool
has_ports c p = (p.destination == c.own_port) && (p.source == c.peer_port)

-- An ABORT or a SHUTDOWN COMPLETE with T = 1 shows the tag of the packet that it answers: it is from an endpoint that knows no other (8.5.1).
abbrev pub is_reflected : ChunkMeaning → Bool
is_reflected (Abort shown causes) = shown
is_reflected (ShutdownComplete shown) = shown
is_reflected x = false

-- The tag is one that the endpoint looks for: its own, or its peer's if it is reflected. A caller has no peer's tag yet, and an endpoint without an
-- association asks for none.
abbrev pub passes_tag : Phase → (reflected : Bool) → ℕ → Bool
passes_tag (Calling d) reflected tag = not reflected && (tag == d.tag)
passes_tag (Echoing t xs) reflected tag = tag == (if reflected then t.peer else t.own)
passes_tag (Open t g) reflected tag = tag == (if reflected then t.peer else t.own)
passes_tag h reflected tag = true

-- the tag of an INIT, whose sender can know none (8.5.1)
abbrev pub NO_TAG : ℕ
NO_TAG = 0

-- The first chunk decides which tag is asked for.
abbrev pub passes_first : Phase → ChunkMeaning → ℕ → Bool
passes_first h (Init m) tag = tag == NO_TAG
passes_first h x tag = passes_tag h (is_reflected x) tag

-- the same of a packet's chunks
abbrev pub passes_chunks : Phase → ℕ → List ChunkMeaning → Bool
passes_chunks h tag (first ∷ others) = passes_first h first tag
passes_chunks h tag [] = passes_tag h false tag

-- The packet's tag is right.
abbrev pub passes : Phase → Packet → Bool
passes h p = passes_chunks h p.tag p.chunks
