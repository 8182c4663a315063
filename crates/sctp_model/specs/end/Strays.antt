-- A packet at an endpoint without an association: its first chunk decides, and the endpoint stays as it is (RFC 9260, 5.1 and 8.4).
use Rattle.std.specs.Prelude.{ℕ, Bool, true, false, ◌||◌, ◌==◌, if◌then◌else◌, List, [], ◌∷◌, Option, Some, None}
use Rattle.sctp_model.specs.numbers.Numbers.{u32_bytes}
use Rattle.sctp_model.specs.wire.Chunk.{InitMeaning, ChunkMeaning, Data, IData, Init, InitAck, Sack, Heartbeat, HeartbeatAck, Abort, Shutdown, ShutdownAck}
use Rattle.sctp_model.specs.wire.Chunk.{Error, CookieEcho, CookieAck, ShutdownComplete, ForwardTsn, IForwardTsn, Unknown}
use Rattle.sctp_model.specs.wire.Packet.{Packet}
use Rattle.sctp_model.specs.end.Sealing.{Body, Sealing}
use Rattle.sctp_model.specs.end.EndView.{Draw, Phase, Listening, Role, EndView}
use Rattle.sctp_model.specs.end.Reports.{written, item, STALE_COOKIE, INVALID_PARAMETER}
use Rattle.sctp_model.specs.end.PeerFaults.{TAG, STATE, COOKIE, packet_to, abort_for}
use Rattle.sctp_model.specs.end.Opening.{CookieRead, CookieOpens, CookieLate, Strange, cookie_read, staleness, seal_in, has_no_stream, init_ack}

-- What is returned of a packet that arrived: it acted, it was dropped for a reason, or this packet is to be sent at once (RFC 9260, 8.4).
pub data Verdict : Type 0 where
  Taken : Verdict
  Dropped : (reason : ℕ) → Verdict
  Answer : Packet → Verdict

-- an ABORT
abbrev pub is_abort : ChunkMeaning → Bool
is_abort (Abort t causes) = true
is_abort x = false

-- one of the chunks is an ABORT: such a packet is never answered (8.4, rule 2)
abbrev pub holds_abort : List ChunkMeaning → Bool
holds_abort [] = false
holds_abort (x ∷ xs) = is_abort x || holds_abort xs

-- the seal of an endpoint that listens
abbrev pub seal_at : Phase → Role → Option Sealing
seal_at Listening r = seal_in r
seal_at h r = None

-- the seal of an endpoint that listens now
abbrev pub listens : EndView → Option Sealing
listens e = seal_at e.phase e.role

-- an INIT at a listener, or if none listens (5.1, B)
abbrev pub init_verdict : Option Sealing → EndView → Draw → InitMeaning → Verdict
init_verdict None e d m = Answer (packet_to e.configuration m.tag (Abort false []))
init_verdict (Some s) e d m =
    if has_no_stream m then Answer (packet_to e.configuration m.tag (abort_for (item INVALID_PARAMETER [])))
    else Answer (packet_to e.configuration m.tag (init_ack s e d m))

-- a cookie that doesn't open: only of one that is too old is it reported, with by how much (5.1.5, item 3)
abbrev pub cookie_verdict : EndView → CookieRead → Verdict
cookie_verdict e (CookieLate b) = Answer (packet_to e.configuration b.caller.tag (Error (written (item STALE_COOKIE (u32_bytes (staleness e.moment b)) ∷ []))))
cookie_verdict e (CookieOpens b) = Dropped COOKIE
cookie_verdict e Strange = Dropped COOKIE

-- a COOKIE ECHO that begins nothing
abbrev pub echo_verdict : Option Sealing → EndView → ℕ → List ℕ → Verdict
echo_verdict None e tag cookie = Answer (packet_to e.configuration tag (Abort true []))
echo_verdict (Some s) e tag cookie = cookie_verdict e (cookie_read s e tag cookie)

-- an ABORT that shows the packet's own tag (8.4, rule 8; 8.5.1, B)
abbrev pub refused : EndView → ℕ → Verdict
refused e tag = Answer (packet_to e.configuration tag (Abort true []))

-- by the first chunk, a row for each type (8.4)
abbrev pub first_verdict : EndView → Draw → ℕ → ChunkMeaning → Verdict
first_verdict e d tag (Init m) = if m.tag == 0 then Dropped TAG else init_verdict (listens e) e d m
first_verdict e d tag (CookieEcho cookie) = echo_verdict (listens e) e tag cookie
first_verdict e d tag ShutdownAck = Answer (packet_to e.configuration tag (ShutdownComplete true))
first_verdict e d tag (ShutdownComplete t) = Dropped STATE
first_verdict e d tag CookieAck = Dropped STATE
first_verdict e d tag (InitAck m) = Dropped STATE
first_verdict e d tag (Error causes) = Dropped STATE
first_verdict e d tag (Unknown kind flags value) = Dropped STATE
first_verdict e d tag (Abort t causes) = Dropped STATE
first_verdict e d tag (Data p) = refused e tag
first_verdict e d tag (IData p) = refused e tag
first_verdict e d tag (Sack s) = refused e tag
first_verdict e d tag (Heartbeat info) = refused e tag
first_verdict e d tag (HeartbeatAck info) = refused e tag
first_verdict e d tag (Shutdown tsn) = refused e tag
first_verdict e d tag (ForwardTsn m) = refused e tag
first_verdict e d tag (IForwardTsn m) = refused e tag

-- the verdict on these chunks
abbrev pub chunks_verdict : EndView → Draw → ℕ → List ChunkMeaning → Verdict
chunks_verdict e d tag [] = Dropped STATE
chunks_verdict e d tag (x ∷ xs) = if holds_abort (x ∷ xs) then Dropped STATE else first_verdict e d tag x

-- The verdict on a packet at an endpoint without an association.
abbrev pub stray_verdict : EndView → Draw → Packet → Verdict
stray_verdict e d p = chunks_verdict e d p.tag p.chunks

-- ---- the cookie that begins an association

-- the body of a cookie that opens (5.1.5)
abbrev pub body_of : CookieRead → Option Body
body_of (CookieOpens b) = Some b
body_of (CookieLate b) = None
body_of Strange = None

-- the body that a listener finds in a chunk
abbrev pub body_in : Option Sealing → EndView → ℕ → ChunkMeaning → Option Body
body_in (Some s) e tag (CookieEcho cookie) = body_of (cookie_read s e tag cookie)
body_in s e tag x = None

-- the body that a listener finds in the first of these chunks; if one of them is an ABORT there is none
abbrev pub body_among : EndView → ℕ → List ChunkMeaning → Option Body
body_among e tag [] = None
body_among e tag (x ∷ xs) = if holds_abort (x ∷ xs) then None else body_in (listens e) e tag x

-- THE COOKIE that begins an association: that of the first chunk, if no ABORT is in the packet.
abbrev pub opened_by : EndView → Packet → Option Body
opened_by e p = body_among e p.tag p.chunks
