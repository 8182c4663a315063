-- Packets that change nothing at an endpoint but its time (RFC 9260, 5.1, 8.4 and 8.5).
use Rattle.std.specs.Prelude.{◌≡◌, ℕ, false, Option, Some, None}
use Rattle.sctp_model.specs.wire.Places.{ArePlaced}
use Rattle.sctp_model.specs.wire.Packet.{Packet}
use Rattle.sctp_model.specs.end.EndView.{Draw, EndView, has_association}
use Rattle.sctp_model.specs.end.Clock.{at_moment}
use Rattle.sctp_model.specs.end.PeerFaults.{COOKIE}
use Rattle.sctp_model.specs.end.Strays.{Verdict, Dropped, opened_by}
use Rattle.sctp_model.specs.end.Arriving.{Receives}

-- At an endpoint without an association, as one that listens, nothing is kept of a packet that has no cookie that opens, whatever it is answered (5.1.3 and
-- 8.4).
abbrev pub StraysChangeNothing : Type 0
StraysChangeNothing = (e : EndView) (now : ℕ) (d : Draw) (p : Packet) (t : EndView) (v : Verdict) → has_association e.phase ≡ false →
    opened_by (at_moment e now) p ≡ None → Receives e now d (Some p) t v → t ≡ at_moment e now

-- its chunks are where they may be, as those of each packet that reads do
abbrev pub AreChunksPlaced : Option Packet → Type 0
AreChunksPlaced None = Unit {0}
AreChunksPlaced (Some p) = ArePlaced p.chunks

-- Nor is anything kept, in any state, of one that is dropped, whatever for: its bytes, its ports, its tag, the state; or a cookie, as far as its chunks are
-- where they may be, so that none acted before the COOKIE ECHO (5.1).
abbrev pub DropsChangeNothing : Type 0
DropsChangeNothing = (e : EndView) (now : ℕ) (d : Draw) (p : Option Packet) (t : EndView) (reason : ℕ) → (reason ≡ COOKIE → AreChunksPlaced p) →
    Receives e now d p t (Dropped reason) → t ≡ at_moment e now
