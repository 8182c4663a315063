-- Where in a packet a chunk may be (RFC 9260, 5.1 and 6.10).
use Rattle.std.specs.Prelude.{◌≡◌, ℕ, ◌+◌, Bool, true, false, if◌then◌else◌, List, [], ◌∷◌, Option, Some, None}
use Rattle.sctp_model.specs.wire.Chunk.{ChunkMeaning, Init, InitAck, CookieEcho, ShutdownComplete, size_of_chunk}

-- INIT, INIT ACK and SHUTDOWN COMPLETE have a packet of their own (6.10).
abbrev pub stands_alone : ChunkMeaning → Bool
stands_alone (Init offer) = true
stands_alone (InitAck offer) = true
stands_alone (ShutdownComplete reflected) = true
stands_alone m = false

-- Those, and COOKIE ECHO, never follow another chunk (5.1).
abbrev pub never_follows : ChunkMeaning → Bool
never_follows (CookieEcho cookie) = true
never_follows m = stands_alone m

-- Of chunks with this many bytes of others before them, where the first begins that may never follow another one.
abbrev pub misplaced_behind : (before : ℕ) → List ChunkMeaning → Option ℕ
misplaced_behind before [] = None
misplaced_behind before (m ∷ ms) = if never_follows m then Some before else misplaced_behind (before + size_of_chunk m) ms

-- Where the first misplaced chunk of a packet begins, in bytes from the first chunk: that one itself, if it must be alone and others follow; else one that
-- follows and never may.
abbrev pub first_misplaced : List ChunkMeaning → Option ℕ
first_misplaced [] = None
first_misplaced (m ∷ []) = None
first_misplaced (m ∷ next ∷ ms) = if stands_alone m then Some 0 else misplaced_behind (size_of_chunk m) (next ∷ ms)

-- Each chunk of a packet is where it may be.
abbrev pub ArePlaced : List ChunkMeaning → Type 0
ArePlaced ms = first_misplaced ms ≡ None
