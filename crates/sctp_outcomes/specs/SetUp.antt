-- Whatever arrives, an endpoint stays set up as it is: packets of its limit, from its ports (RFC 9260, 4).
use Rattle.std.specs.Prelude.{◌≡◌, ℕ, List, Option}
use Rattle.sctp_model.specs.wire.Chunk.{ChunkMeaning}
use Rattle.sctp_model.specs.wire.Packet.{Packet}
use Rattle.sctp_model.specs.end.EndView.{Draw, EndView}
use Rattle.sctp_model.specs.end.Strays.{Verdict}
use Rattle.sctp_model.specs.end.Arriving.{Notes, AllAct, Receives, IsCutShort}

-- Chunks that act one after the other leave an endpoint set up as it was.
abbrev pub ChunksLeaveTheConfiguration : Type 0
ChunksLeaveTheConfiguration = (tag : ℕ) (e t : EndView) (n m : Notes) (xs : List ChunkMeaning) (v : Verdict) → AllAct tag e n xs t m v →
    t.configuration ≡ e.configuration

-- so does a packet
abbrev pub PacketsLeaveTheConfiguration : Type 0
PacketsLeaveTheConfiguration = (e : EndView) (now : ℕ) (d : Draw) (p : Option Packet) (t : EndView) (v : Verdict) → Receives e now d p t v →
    t.configuration ≡ e.configuration

-- and one that is cut short
abbrev pub CutPacketsLeaveTheConfiguration : Type 0
CutPacketsLeaveTheConfiguration = (e : EndView) (now : ℕ) (d : Draw) (p : Option Packet) (t : EndView) → IsCutShort e now d p t →
    t.configuration ≡ e.configuration
