-- What is done with a packet at an endpoint without an association (RFC 9260, 5.1 and 8.4).
use Rattle.std.specs.Prelude.{◌≡◌, ℕ, ◌≤◌, List, length, Option, Some, None}
use Rattle.sctp_model.specs.end.Sealing.{Body}
use Rattle.sctp_model.specs.end.Strays.{Verdict, Taken, Dropped, Answer}
use Rattle.sctp_packet.specs.PacketBytes.{WritesPacket}
use Rattle.sctp_cookie.specs.CookieTree.{content_meaning}
use Rattle.sctp_terms.specs.Meanings.{reason_code}
use Rattle.sctp_opening.specs.declared.outside.Stray.{Stray}
use Rattle.sctp_opening.specs.declared.outside.Stray.TheVariants as stray

-- The verdict is an answer, and these are the bytes of its packet.
abbrev pub IsAnswer : List ℕ → Verdict → Type 0
IsAnswer bytes (Answer p) = WritesPacket bytes p
IsAnswer bytes (Dropped reason) = ⊥
IsAnswer bytes Taken = ⊥

-- What is returned of a packet with this valid cookie, or of one without any and with this verdict.
abbrev pub IsTold : Stray → Option Body → Verdict → Type 0
IsTold (stray.Begins content) opened v = opened ≡ Some (content_meaning content)
IsTold (stray.Dropped reason) opened v = (opened ≡ None) × (v ≡ Dropped (reason_code reason))
IsTold (stray.Answered packet) opened v = (opened ≡ None) × IsAnswer packet.items v

-- If it is answered by a packet, that has at most `limit` bytes.
abbrev pub IsToldWithin : (limit : ℕ) → Stray → Type 0
IsToldWithin limit (stray.Begins content) = Unit {0}
IsToldWithin limit (stray.Dropped reason) = Unit {0}
IsToldWithin limit (stray.Answered packet) = length packet.items ≤ limit
