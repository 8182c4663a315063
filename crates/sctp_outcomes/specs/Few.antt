-- How many messages a packet begins.
use Rattle.std.specs.Prelude.{◌≡◌, ℕ, ◌-◌, ◌*◌, ◌≤◌, List, length}
use Rattle.sctp_model.specs.wire.Chunk.{ChunkMeaning}
use Rattle.sctp_model.specs.wire.Packet.{HEADER_ROOM}
use Rattle.sctp_model.specs.sender.Reached.{IsReached}
use Rattle.sctp_model.specs.sender.Filling.{newly_numbered}
use Rattle.sctp_model.specs.end.EndView.{Tags, Stage, Open, EndView, format_of}
use Rattle.sctp_model.specs.end.Clock.{at_moment}
use Rattle.sctp_model.specs.end.Building.{Builds}
use Rattle.sctp_outcomes.specs.Kept.{IsSound}

-- while the association is open, its sender's calls lead to its view
abbrev pub IsFilling : EndView → Type 0
IsFilling e = (t : Tags) (g : Stage) → e.phase ≡ Open t g → IsReached (format_of e) e.sender

-- A packet that is built at any time begins a message for each 20 bytes after its header at most: the header of a DATA chunk, and a byte of the message
-- with its padding (RFC 9260, 3.3.1).
abbrev pub BeginsFew : EndView → Type 0
BeginsFew e = (now : ℕ) (xs : List ChunkMeaning) (t : EndView) → Builds (at_moment e now) xs t →
    20 * length (newly_numbered e.sender t.sender) ≤ e.configuration.limit - HEADER_ROOM

-- So it is of every sound end.
abbrev pub BuildsBeginFew : Type 0
BuildsBeginFew = (e : EndView) → IsSound e → IsFilling e → BeginsFew e
